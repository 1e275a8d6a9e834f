-- Each relation where it holds, and a near miss.
use Rattle.std.proofs.Common.{◌≡◌, true, false, List, [], ◌∷◌, None, refl, ◌∙◌, arith}
use Rattle.cd_outside.specs.declared.address.Address.{Address}
use Rattle.cd_outside.specs.declared.past.Connection.{Connection}
use Rattle.cd_outside.specs.declared.past.KeepRecord.{KeepRecord}
use Rattle.cd_outside.specs.declared.past.Past.{Past}
use Rattle.cd_outside.specs.Past.{fresh}
use Rattle.cd_wire.proofs.TakingLemmas.{nothing_no_request}
use Rattle.cd_session.specs.Ways.{Interruption, Way}
use Rattle.cd_gateway.specs.Connections.{Ending, EndsBy, Relays, RelaysEach}
use Rattle.cd_gateway.specs.Lanes.{Relayed, answered_in, counted}
use Rattle.cd_gateway.proofs.Going.{lane-starts}

-- ---- ways to end

-- no bytes came, and then the end
of_clean : EndsBy true [] [] [] Way.clean
of_clean = (tt, (nothing_no_request, (refl, refl)), refl)

-- a byte was sent after the answers
of_byte : EndsBy true [] [] (1 ∷ []) Way.clean → ⊥
of_byte ends = let h : 1 ∷ [] ≡ [] = ends.2 in cc

-- the end was not seen
of_open : EndsBy false [] [] [] Way.clean → ⊥
of_open ends = let h : false ≡ true = ends.1.1.0 in cc

-- no lines are logged, so none cuts a connection short
of_logging : EndsBy true [] [] [] (Way.interrupted Interruption.logging) → ⊥
of_logging ends = ends

-- ---- connections

abbrev quiet : Address → Connection
quiet at = record (fresh at) { ended = true }

abbrev clean : Ending
clean = record { replies = []; way = Way.clean }

module _ (upstreams : List Address) (at : Address) where
  of_quiet : Relays upstreams (quiet at) clean
  of_quiet = record { rest = []; fixed = []; splits = refl; each = tt; put = refl; lines = refl; keeps = refl; ends = of_clean }

  -- a byte was sent of no answer
  of_put : Relays upstreams (record (quiet at) { put = 1 ∷ [] }) clean → ⊥
  of_put r = let h : 1 ∷ [] ≡ [] = r.put ∙ r.ends.2 in cc

  -- a configuration was kept
  of_keep : (k : KeepRecord) → Relays upstreams (record (quiet at) { keeps = k ∷ [] }) clean → ⊥
  of_keep k r = let h : k ∷ [] ≡ [] = r.keeps in cc

-- ---- lanes

-- the past of a lane that nothing has happened to
abbrev untouched : Past
untouched = record { connections = []; accept_faults = 0; last = None }

none-answered : (upstreams : List Address) (cs : List Connection) (es : List Ending) → [] ≡ cs → RelaysEach upstreams cs es → answered_in es ≡ 0
none-answered upstreams [] [] is all = refl
none-answered upstreams [] (e ∷ es) is all = absurd all
none-answered upstreams (c ∷ cs) es is all = absurd (let h : [] ≡ c ∷ cs = is in cc)

module _ (upstreams : List Address) where
  of_untouched : Relayed upstreams (counted 0 0) (counted 0 0) 0 0 None None untouched untouched
  of_untouched = lane-starts upstreams 0 0 None untouched

  -- a request was counted of no connection
  of_count : Relayed upstreams (counted 0 0) (counted 0 0) 1 0 None None untouched untouched → ⊥
  of_count r =
      let none : answered_in r.endings ≡ 0 = none-answered upstreams r.connections r.endings r.added r.each in
      absurd (omega (arith, r.answers, none))
