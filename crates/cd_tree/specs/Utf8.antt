-- Which tokens are text, for the clauses of private functions.
use Rattle.std.specs.Prelude.{List, Bool, true}
use Rattle.std.specs.List.{list_all}
use Rattle.std.specs.Str.{is_utf8}
use Rattle.json.specs.Token as token
use Rattle.json.specs.Token.{Token}

-- what the token carries is UTF-8
abbrev pub is_text : Token → Bool
is_text token.begin_object = true
is_text token.end_object = true
is_text token.begin_array = true
is_text token.end_array = true
is_text (token.key s) = is_utf8 s
is_text (token.string s) = is_utf8 s
is_text (token.number s) = is_utf8 s
is_text (token.boolean b) = true
is_text token.null = true
is_text token.bad = true

abbrev pub are_text : List Token → Bool
are_text = list_all is_text
