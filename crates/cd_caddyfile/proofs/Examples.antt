-- Each definition where it holds and where it does not, computed: words, blocks, sites, faults and trees, with near misses.
use Rattle.std.proofs.Common.{◌≡◌, ℕ, true, List, [], ◌∷◌, refl, Option, Some, None}
use Rattle.std.specs.Prelude.{codes}
use Rattle.std.specs.Fmt.{digits}
use Rattle.std.specs.Str.{is_utf8, chars}
use lib.Utf8.{encode}
use Rattle.cd_tree.specs.declared.tree.Tree as tree
use Rattle.cd_caddyfile.specs.declared.fault.CaddyfileKind.TheVariants.{BadText, BadBlock, BadAddress, RepeatedSite, UnknownDirective, BadArguments, UnknownMatcher, RepeatedMatcher}
use Rattle.cd_caddyfile.specs.declared.word.Mark.TheVariants.{Bare, Quoted, Open}
use Rattle.cd_caddyfile.specs.Words.{word, words}
use Rattle.cd_caddyfile.specs.Lines.{by_last}
use Rattle.cd_caddyfile.specs.Shorthands.{spelled}
use Rattle.cd_caddyfile.specs.Blocks.{nested, outermost, followed_by, left_open}
use Rattle.cd_caddyfile.specs.Walk.{walk}
use Rattle.cd_caddyfile.specs.Sites.{Tests, no_tests, done, act, handle, Site, set_field, delete_field, redir, rewrite, respond}
use Rattle.cd_caddyfile.specs.FileSites.{put, put_handle, block_of, sites_in, sites}
use Rattle.cd_caddyfile.specs.Faults.{fault_at, line_faults, fault_of}
use Rattle.cd_caddyfile.specs.Shape.{route, group, subroute, routes_of, member, object, list, text_list, handler_of, rewrites, handles, groups_inside, routes_from, site_routes, all_groups, ports_after, servers, apps, shape}

-- ---- words

quotes_and_comments : words (codes "respond \"a \\\"b\\\"\"c\t# no") ≡ word (codes "respond") Bare ∷ word (codes "a \"b\"") Quoted ∷ word (codes "c") Bare ∷ []
unfolding words
quotes_and_comments = refl

a_hash_inside : words (codes "a#b \"#\"") ≡ word (codes "a#b") Bare ∷ word (codes "#") Quoted ∷ []
unfolding words
a_hash_inside = refl

backslashes_stay : words (codes "\"\\a\\\\\" c\\") ≡ word (codes "\\a\\\\") Quoted ∷ word (codes "c\\") Bare ∷ []
unfolding words
backslashes_stay = refl

left_open_at_the_end : words (codes "a \"b\\") ≡ word (codes "a") Bare ∷ word (codes "b\\") Open ∷ []
unfolding words
left_open_at_the_end = refl

shorthands : spelled (codes "{method} {host}{path}?{query} {uri}") ≡ codes "{http.request.method} {http.request.host}{http.request.uri.path}?{http.request.uri.query} {http.request.uri}"
unfolding spelled
shorthands = refl

no_shorthands : spelled (codes "method {Method} {{uri} } {uri") ≡ codes "method {Method} {{http.request.uri} } {uri"
unfolding spelled
no_shorthands = refl

-- ---- sites

path_test : List ℕ → Option Tests
path_test path = Some (record no_tests { path = Some (path ∷ []) })

first_file : List ℕ
first_file = codes "http://a.test:8080 {\nrewrite /old /new\nrespond \"hi {method}\"\n}\n"

first_sites : List Site
unfolding path_test
first_sites = record {
  address = record { port = 8080; host = Some (codes "a.test") };
  block = act (path_test (codes "/old")) (rewrite (codes "/new")) (act None (respond (Some (codes "hi {http.request.method}")) None) done);
} ∷ []

first_says : sites first_file ≡ first_sites
unfolding first_file first_sites words spelled by_last nested outermost followed_by walk put put_handle block_of sites_in
first_says = refl

-- no lines but blank ones
nothing_said : sites (codes "# none\n\n \t\r\n") ≡ []
unfolding words spelled by_last nested outermost followed_by walk put put_handle block_of sites_in
nothing_said = refl

-- CRLF, tabs, a quoted brace, and the order of the table, in which two of a name stay in their order
in_order : sites (codes ":80\t{\r\nrespond \"{\" 404\r\nheader -B\r\nheader A b\r\nredir x permanent\r\n}\r\n") ≡ record {
  address = record { port = 80; host = None };
  block = act None (delete_field (codes "B")) (act None (set_field (codes "A") (codes "b")) (act None (redir (codes "x") 301)
      (act None (respond (Some (codes "{")) (Some 404)) done)));
} ∷ []
unfolding words spelled by_last nested outermost followed_by walk put put_handle block_of sites_in
in_order = refl

-- two arguments of `redir`: a path in front is the matcher, also where the other looks like a code
a_path_in_front : sites (codes ":80 {\nredir /a permanent\nrewrite /b\n}\n") ≡ record {
  address = record { port = 80; host = None };
  block = act (path_test (codes "/a")) (redir (codes "permanent") 302) (act None (rewrite (codes "/b")) done);
} ∷ []
unfolding path_test words spelled by_last nested outermost followed_by walk put put_handle block_of sites_in
a_path_in_front = refl

-- a matcher may follow its use; values of one kind are joined; a `handle` has a block
a_matcher_of_lines : sites (codes ":80 {\nhandle @x {\nrespond a\n}\n@x {\npath /a\nquery k=v=w\npath /b\n}\n}\n") ≡ record {
  address = record { port = 80; host = None };
  block = handle (Some (record {
    path = Some (codes "/a" ∷ codes "/b" ∷ []);
    method = None;
    host = None;
    header = [];
    query = record { name = codes "k"; values = codes "v=w" ∷ [] } ∷ [];
  })) (act None (respond (Some (codes "a")) None) done) done;
} ∷ []
unfolding words spelled by_last nested outermost followed_by walk put put_handle block_of sites_in
a_matcher_of_lines = refl

-- ---- faults

first_is_fine : fault_of first_file ≡ None
unfolding first_file words spelled by_last nested outermost followed_by left_open walk line_faults is_utf8 chars encode
first_is_fine = refl

an_unknown_matcher : fault_of (codes ":80 {\nrespond @x hi\n}\n") ≡ Some (fault_at 2 UnknownMatcher)
unfolding words spelled by_last nested outermost followed_by left_open walk line_faults is_utf8 chars encode
an_unknown_matcher = refl

-- a matcher counts in its site alone, and in all of it
of_another_site : fault_of (codes ":80 {\n@x path /a\n}\n:81 {\nrespond @x hi\n}\n") ≡ Some (fault_at 5 UnknownMatcher)
unfolding words spelled by_last nested outermost followed_by left_open walk line_faults is_utf8 chars encode
of_another_site = refl

defined_later : fault_of (codes ":80 {\nrespond @x hi\nhandle {\n@x path /a\n}\n}\n") ≡ None
unfolding words spelled by_last nested outermost followed_by left_open walk line_faults is_utf8 chars encode
defined_later = refl

a_bad_address : fault_of (codes "a.test {\n}") ≡ Some (fault_at 1 BadAddress)
unfolding words spelled by_last nested outermost followed_by left_open walk line_faults is_utf8 chars encode
a_bad_address = refl

the_port_of_https : fault_of (codes ":443 {\n}\n") ≡ Some (fault_at 1 BadAddress)
unfolding words spelled by_last nested outermost followed_by left_open walk line_faults is_utf8 chars encode
the_port_of_https = refl

the_last_port : fault_of (codes ":65535 {\n}\n") ≡ None
unfolding words spelled by_last nested outermost followed_by left_open walk line_faults is_utf8 chars encode
the_last_port = refl

past_the_last_port : fault_of (codes ":65536 {\n}\n") ≡ Some (fault_at 1 BadAddress)
unfolding words spelled by_last nested outermost followed_by left_open walk line_faults is_utf8 chars encode
past_the_last_port = refl

no_port_is_zero : fault_of (codes ":0 {\n}\n") ≡ Some (fault_at 1 BadAddress)
unfolding words spelled by_last nested outermost followed_by left_open walk line_faults is_utf8 chars encode
no_port_is_zero = refl

a_leading_zero : fault_of (codes ":080 {\n}\n") ≡ Some (fault_at 1 BadAddress)
unfolding words spelled by_last nested outermost followed_by left_open walk line_faults is_utf8 chars encode
a_leading_zero = refl

-- what follows `http://` is a host or a port
no_host : fault_of (codes "http:// {\n}\n") ≡ Some (fault_at 1 BadAddress)
unfolding words spelled by_last nested outermost followed_by left_open walk line_faults is_utf8 chars encode
no_host = refl

a_port_after_http : fault_of (codes "http://:81 {\n}\n") ≡ None
unfolding words spelled by_last nested outermost followed_by left_open walk line_faults is_utf8 chars encode
a_port_after_http = refl

two_addresses : fault_of (codes ":80 :81 {\n}\n") ≡ Some (fault_at 1 BadAddress)
unfolding words spelled by_last nested outermost followed_by left_open walk line_faults is_utf8 chars encode
two_addresses = refl

-- a block that is left open is at fault at its line, and the outermost is reported
an_open_block : fault_of (codes ":80 {\nhandle {\n}\n") ≡ Some (fault_at 1 BadBlock)
unfolding words spelled by_last nested outermost followed_by left_open walk line_faults is_utf8 chars encode
an_open_block = refl

closes_nothing : fault_of (codes ":80 {\n}\n}\n:80 {\n") ≡ Some (fault_at 3 BadBlock)
unfolding words spelled by_last nested outermost followed_by left_open walk line_faults is_utf8 chars encode
closes_nothing = refl

on_one_line : fault_of (codes ":80 { }\n") ≡ Some (fault_at 1 BadBlock)
unfolding words spelled by_last nested outermost followed_by left_open walk line_faults is_utf8 chars encode
on_one_line = refl

a_respond_with_a_block : fault_of (codes ":80 {\nrespond {\n}\n}\n") ≡ Some (fault_at 2 BadBlock)
unfolding words spelled by_last nested outermost followed_by left_open walk line_faults is_utf8 chars encode
a_respond_with_a_block = refl

a_quoted_brace_opens_nothing : fault_of (codes ":80 \"{\"\n") ≡ Some (fault_at 1 BadBlock)
unfolding words spelled by_last nested outermost followed_by left_open walk line_faults is_utf8 chars encode
a_quoted_brace_opens_nothing = refl

-- BadArguments comes before UnknownMatcher, and the first line before the second
arguments_first : fault_of (codes ":80 {\nrespond @x a b\nfoo\n}\n") ≡ Some (fault_at 2 BadArguments)
unfolding words spelled by_last nested outermost followed_by left_open walk line_faults is_utf8 chars encode
arguments_first = refl

an_unknown_directive : fault_of (codes ":80 {\nlog {\n@y path /a\n}\nrespond @y\nfoo\n}\n") ≡ Some (fault_at 2 UnknownDirective)
unfolding words spelled by_last nested outermost followed_by left_open walk line_faults is_utf8 chars encode
an_unknown_directive = refl

-- hosts are the same in any case, with port 80 where none is given
a_repeated_site : fault_of (codes "http://A.test {\n}\n\n# again\nhttp://a.test:80 {\n}\n") ≡ Some (fault_at 5 RepeatedSite)
unfolding words spelled by_last nested outermost followed_by left_open walk line_faults is_utf8 chars encode
a_repeated_site = refl

another_port : fault_of (codes "http://a.test {\n}\nhttp://a.test:81 {\n}\n:80 {\n}\n") ≡ None
unfolding words spelled by_last nested outermost followed_by left_open walk line_faults is_utf8 chars encode
another_port = refl

an_open_quote : fault_of (codes ":80 {\nrespond \"a\n}\n") ≡ Some (fault_at 2 BadText)
unfolding words spelled by_last nested outermost followed_by left_open walk line_faults is_utf8 chars encode
an_open_quote = refl

-- a second matcher of a name is refused, also inside a `handle`
a_repeated_matcher : fault_of (codes ":80 {\n@x path /a\nhandle @x {\n@x method GET\n}\n}\n") ≡ Some (fault_at 4 RepeatedMatcher)
unfolding words spelled by_last nested outermost followed_by left_open walk line_faults is_utf8 chars encode
a_repeated_matcher = refl

a_test_with_a_block : fault_of (codes ":80 {\n@x {\npath /a {\n}\n}\n}\n") ≡ Some (fault_at 3 BadBlock)
unfolding words spelled by_last nested outermost followed_by left_open walk line_faults is_utf8 chars encode
a_test_with_a_block = refl

vars_of_its_own : fault_of (codes ":80 {\nvars handler x\n}\n") ≡ Some (fault_at 2 BadArguments)
unfolding words spelled by_last nested outermost followed_by left_open walk line_faults is_utf8 chars encode
vars_of_its_own = refl

-- a matcher before them changes nothing of it
vars_of_its_own_matched : fault_of (codes ":80 {\nvars * @id x\n}\n") ≡ Some (fault_at 2 BadArguments)
unfolding words spelled by_last nested outermost followed_by left_open walk line_faults is_utf8 chars encode
vars_of_its_own_matched = refl

vars_of_another_name : fault_of (codes ":80 {\nvars * id x\n}\n") ≡ None
unfolding words spelled by_last nested outermost followed_by left_open walk line_faults is_utf8 chars encode
vars_of_another_name = refl

-- a block with no word before it is of no directive, and outside of all sites it is of no address
a_block_of_nothing : fault_of (codes ":80 {\n{\n}\n}\n") ≡ Some (fault_at 2 UnknownDirective)
unfolding words spelled by_last nested outermost followed_by left_open walk line_faults is_utf8 chars encode
a_block_of_nothing = refl

a_site_of_nothing : fault_of (codes "{\n}\n") ≡ Some (fault_at 1 BadAddress)
unfolding words spelled by_last nested outermost followed_by left_open walk line_faults is_utf8 chars encode
a_site_of_nothing = refl

-- ---- trees

-- the tree of the first file
first_tree : shape first_sites ≡ apps (member (codes "srv0") (object (member (codes "listen") (text_list (codes ":8080" ∷ [])) ∷ member (codes "routes") (list (
    object (
    member (codes "handle") (list (object (member (codes "handler") (tree.Text (codes "subroute")) ∷ member (codes "routes") (list (
    object (member (codes "group") (tree.Text (codes "group0")) ∷ member (codes "handle") (list (object (member (codes "handler") (tree.Text (codes "rewrite")) ∷ member (codes "uri") (tree.Text (codes "/new")) ∷ []) ∷ []))
    ∷ member (codes "match") (list (object (member (codes "path") (text_list (codes "/old" ∷ [])) ∷ []) ∷ [])) ∷ [])
    ∷ object (member (codes "handle") (list (object (member (codes "body") (tree.Text (codes "hi {http.request.method}")) ∷ member (codes "handler") (tree.Text (codes "static_response")) ∷ []) ∷ [])) ∷ [])
    ∷ [])) ∷ []) ∷ []))
    ∷ member (codes "match") (list (object (member (codes "host") (text_list (codes "a.test" ∷ [])) ∷ []) ∷ []))
    ∷ member (codes "terminal") (tree.Bool true) ∷ [])
    ∷ [])) ∷ [])) ∷ [])
unfolding first_sites path_test digits handler_of rewrites handles groups_inside routes_from site_routes all_groups ports_after servers shape
first_tree = refl

-- groups are numbered as the routes first need them, outer before inner: 0 and 1 are those of the block, 2 and 3 those of the
-- first `handle`, 4 is inside it, and 5 is that of the second one
numbers_of_groups : routes_of (act None (rewrite (codes "/a")) (handle None (act None (rewrite (codes "/b")) (handle None (act None (rewrite (codes "/c")) done) done))
    (handle None (act None (rewrite (codes "/d")) done) done))) 0
    ≡ route (group 0) None (handler_of (rewrite (codes "/a")))
    ∷ route (group 1) None (subroute (route (group 2) None (handler_of (rewrite (codes "/b")))
    ∷ route (group 3) None (subroute (route (group 4) None (handler_of (rewrite (codes "/c"))) ∷ [])) ∷ []))
    ∷ route (group 1) None (subroute (route (group 5) None (handler_of (rewrite (codes "/d"))) ∷ [])) ∷ []
unfolding rewrites handles groups_inside routes_from
numbers_of_groups = refl
