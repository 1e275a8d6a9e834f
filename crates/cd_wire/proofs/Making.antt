-- A struct without fields, as it is made.
use mir.Val.{Val, vstruct, vnil}

abbrev pub no_fields : Val
no_fields = vstruct vnil
