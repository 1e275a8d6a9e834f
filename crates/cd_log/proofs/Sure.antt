-- No settings of logging lack memory to be read.
use Rattle.std.proofs.Common.{◌≡◌, ℕ, true, List, refl, Option, Some, None, rules}
use Rattle.std.specs.Prelude.{codes}
use Rattle.std.specs.Str.{bytes_eq}
use Rattle.cd_tree.specs.declared.path.Path.{Path}
use Rattle.cd_tree.specs.declared.tree.Member.{Member}
use Rattle.cd_module.specs.Settings.{members, name_of, object_of}
use Rattle.cd_module.proofs.Sure.{is_said, IsSure, then-sure, if-sure, text-sure, unread_object-sure, list_of-sure, members-sure, optional-sure, needed-sure, name_of-sure, object_of-sure}
use Rattle.cd_log.specs.Logging.{stream_named, stream_or_unknown, file, writer_named, writer, without_effect, access_said, log_members, named_log, logs_by_name, logging}
use Rattle.cd_log.specs.declared.writer.Writer.{Writer}

-- ---- writers

stream-sure : (found : Option Writer) (name : List ℕ) → IsSure (stream_or_unknown found name)
stream-sure None name = record { sure = λ t at. refl }
stream-sure (Some stream) name = record { sure = λ t at. then-sure (members (codes "output") t at) _ (members-sure (codes "output") t at) (λ ms. refl) }

file-sure : IsSure file
unfolding file
file-sure = search (rules, members-sure, then-sure, needed-sure, text-sure)

writer_named-sure : (name : List ℕ) → IsSure (writer_named name)
unfolding writer_named
writer_named-sure name = record { sure = λ t at. if-sure (bytes_eq name (codes "file")) _ _ (file-sure.sure t at) ((stream-sure (stream_named name) name).sure t at) }

writer-sure : IsSure writer
unfolding writer
writer-sure = record { sure = λ t at. then-sure (name_of (codes "output") t at) _ ((name_of-sure (codes "output")).sure t at) (λ name. (writer_named-sure name).sure t at) }

-- ---- logs

without_effect-sure : (ms : List Member) (at : Path) → is_said (without_effect ms at) ≡ true
unfolding without_effect
without_effect-sure ms at = search (rules, then-sure, optional-sure, unread_object-sure, text-sure)

access_said-sure : (ms : List Member) (at : Path) → is_said (access_said ms at) ≡ true
unfolding access_said
access_said-sure ms at = search (rules, then-sure, optional-sure, list_of-sure, text-sure)

log_members-sure : (name : List ℕ) (ms : List Member) (at : Path) → is_said (log_members name ms at) ≡ true
unfolding log_members
log_members-sure name ms at = search (rules, then-sure, optional-sure, writer-sure, without_effect-sure, access_said-sure)

named_log-sure : (name : List ℕ) → IsSure (named_log name)
unfolding named_log
named_log-sure name = record { sure = λ t at. then-sure (members _ t at) _ (members-sure _ t at) (λ ms. log_members-sure name ms at) }

logs_by_name-sure : IsSure logs_by_name
unfolding logs_by_name
logs_by_name-sure = record { sure = λ t at. then-sure (object_of named_log t at) _ ((object_of-sure named_log named_log-sure).sure t at) (λ found. refl) }

-- ---- the whole

pub logging-sure : IsSure logging
unfolding logging
logging-sure = search (rules, members-sure, then-sure, optional-sure, logs_by_name-sure)
