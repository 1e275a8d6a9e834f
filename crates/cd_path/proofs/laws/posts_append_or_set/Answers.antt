use Rattle.cd_path.proofs.Places.{post_appends, post_sets, post_all_appends}
use Rattle.cd_path.proofs.laws.posts_append_or_set.Goals as goal

pub returns-clause-appended : goal.returns-clause-appended
returns-clause-appended c = post_appends

pub returns-clause-set : goal.returns-clause-set
returns-clause-set c = post_sets

pub returns-clause-all_appended : goal.returns-clause-all_appended
returns-clause-all_appended c = post_all_appends
