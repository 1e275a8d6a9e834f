use Rattle.cd_hall_cases.proofs.Places.{begin_of, row_of, free_of, halted_of}
use Rattle.cd_hall_cases.proofs.threads.meet_in_threads.Goals as goal

pub serve_all-requires-clause-has : goal.serve_all-requires-clause-has
serve_all-requires-clause-has g c κs within = begin_of c.in-Ok-new.made.0 c.in-Ok-new.made.1.items c.in-Ok-new.ensures.row c.in-Ok-new.ensures.passes

pub close-fixtures-requires-clause-row : goal.close-fixtures-requires-clause-row
close-fixtures-requires-clause-row g c κs =
    row_of c.in-Ok-new.made.0 c.in-Ok-new.made.1.items c.serve_all.new.passes.items (c.in-Ok-new.ensures.row.2, c.serve_all.ensures.length, c.serve_all.ensures.served)

pub close-fixtures-requires-clause-free : goal.close-fixtures-requires-clause-free
close-fixtures-requires-clause-free g c κs =
    free_of c.in-Ok-new.made.0 c.in-Ok-new.made.1.items c.serve_all.new.passes.items (c.in-Ok-new.ensures.row.2, c.serve_all.ensures.length, c.serve_all.ensures.served)

pub close-fixtures-requires-clause-halted : goal.close-fixtures-requires-clause-halted
close-fixtures-requires-clause-halted g c κs =
    halted_of c.in-Ok-new.made.0 c.in-Ok-new.made.1.items c.serve_all.new.passes.items (c.in-Ok-new.ensures.row.2, c.serve_all.ensures.length, c.serve_all.ensures.served)
