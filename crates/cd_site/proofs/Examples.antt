-- What blocks and sites answer, computed for every scene, with near misses.
use Rattle.std.proofs.Common.{◌≡◌, ℕ, Bool, true, false, List, [], ◌∷◌, Option, Some, None, refl}
use Rattle.std.specs.Prelude.{codes}
use Rattle.cd_wire.specs.declared.request.Request.{Request}
use Rattle.cd_module.specs.Patterns.{pattern_of}
use Rattle.cd_fill.specs.Filling.{written, pieces_filled, filled_as}
use Rattle.cd_fill.specs.Scene.{scene_of}
use Rattle.cd_fill.specs.Values.{bare_host}
use Rattle.cd_fill.specs.declared.scene.Scene.{Scene}
use Rattle.cd_match.specs.Host.{host_fits}
use Rattle.cd_handlers.specs.Fields.{replaced}
use Rattle.cd_handlers.specs.Filling.{text_filled, fields_filled}
use Rattle.cd_handlers.specs.StaticResponse.{with_type, parts_filled, static_effect}
use Rattle.cd_handlers.specs.Status.{status_given}
use Rattle.cd_caddyfile.specs.Sites.{no_tests, delete_field, respond, Block, done, act, handle, Site}
use Rattle.cd_site.specs.Answering.{does_action, deleted, without_fitting, does, on, ends, fails, settled, bare, host_is, site_answer}

-- an answer of this status, without a body
answers : ℕ → Block
answers status = act None (respond None (Some status)) done

-- ---- blocks

empty_blocks_go_on : (x : Scene) → does done false false x [] ≡ on x []
unfolding does
empty_blocks_go_on x = refl

-- of two `handle`s the first that matches is done alone
one_handle : (x : Scene) → does (handle None done (handle None (answers 404) done)) false false x [] ≡ on x []
unfolding does answers
one_handle x = refl

-- the second, where no method is the first one's
the_other_handle : (x : Scene) → does (handle (Some (record no_tests { method = Some [] })) done (handle None (answers 404) done)) false false x [] ≡ ends (bare 404 x)
unfolding does answers does_action static_effect parts_filled status_given fields_filled text_filled written pieces_filled filled_as with_type replaced deleted
the_other_handle x = refl

-- a deletion is made at the answer
deletions_wait : (x : Scene) → settled (does (act None (delete_field (codes "x")) (answers 204)) false false x [])
    ≡ record { status = 204; fields = without_fitting (pattern_of (codes "x")) x.response; body = []; close = false }
unfolding does answers does_action static_effect parts_filled status_given fields_filled text_filled written pieces_filled filled_as with_type replaced deleted
deletions_wait x = refl

-- one that comes after the answer is not met, and none is made at a failure
too_late : (x : Scene) → settled (does (act None (respond None (Some 204)) (act None (delete_field (codes "x")) done)) false false x []) ≡ bare 204 x
unfolding does does_action static_effect parts_filled status_given fields_filled text_filled written pieces_filled filled_as with_type replaced deleted
too_late x = refl

failures_keep_fields : (x : Scene) → settled (fails x 500) ≡ bare 500 x
failures_keep_fields x = refl

-- ---- sites

a_host : (x : Scene) → host_is (Some (codes "a.test")) (record x { host = codes "A.test:80" }) ≡ true
unfolding host_fits bare_host
a_host x = refl

another_host : (x : Scene) → host_is (Some (codes "a.test")) (record x { host = codes "b.a.test" }) ≡ false
unfolding host_fits bare_host
another_host x = refl

site : Option (List ℕ) → ℕ → ℕ → Site
site host port status = record { address = record { port = port; host = host }; block = answers status }

-- no site has the port
no_site : (q : Request) → site_answer (site None 80 404 ∷ []) 81 q ≡ bare 200 (scene_of q)
unfolding site
no_site q = refl

some_site : (q : Request) → site_answer (site None 80 404 ∷ []) 80 q ≡ bare 404 (scene_of q)
unfolding site answers does does_action static_effect parts_filled status_given fields_filled text_filled written pieces_filled filled_as with_type replaced deleted
some_site q = refl
