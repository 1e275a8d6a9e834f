use Rattle.cd_chain.proofs.keys.note_pattern.Goals as goal

pub returns-in_ok-add_free-in-Suffix-clause-noted : goal.returns-in_ok-add_free-in-Suffix-clause-noted
returns-in_ok-add_free-in-Suffix-clause-noted c path fitting = c.in_ok-add_free-in-Suffix.ensures.added path

pub returns-in_ok-add_free-in-Part-clause-noted : goal.returns-in_ok-add_free-in-Part-clause-noted
returns-in_ok-add_free-in-Part-clause-noted c path fitting = c.in_ok-add_free-in-Part.ensures.added path
