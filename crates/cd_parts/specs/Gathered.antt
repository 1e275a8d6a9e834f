-- The tests of the lines that have been read, for the clauses of private functions.
use Rattle.cd_caddyfile.specs.Sites.{Tests}
use Rattle.cd_parts.specs.declared.sets.Gathered.{Gathered}

abbrev pub gathered : Gathered → Tests
gathered g = record { path = g.path; method = g.method; host = g.host; header = g.header; query = g.query }
