-- Part of the main theorem.
-- The settings of logging, and the first fault there (Caddy, JSON Config Structure, `logging`).
use Rattle.std.specs.Prelude.{ℕ, ◌==◌, ◌&&◌, ◌||◌, nat_eq, Bool, not, if◌then◌else◌, List, [], ◌++◌, length, codes, Option, Some, None, unwrap_or, Result, Ok, Err}
use Rattle.std.specs.List.{list_any, starts_with}
use Rattle.std.specs.Str.{bytes_eq}
use Rattle.cd_text.specs.Steps.{◌▷◌}
use Rattle.cd_tree.specs.declared.path.Path.{Path}
use Rattle.cd_tree.specs.declared.tree.Member.{Member}
use Rattle.cd_outside.specs.declared.key.Key.{Key}
use Rattle.cd_outside.specs.declared.key.Key.TheVariants as key
use Rattle.cd_module.specs.Faults.{unknown_module}
use Rattle.cd_module.specs.Settings.{Reader, text, unread_object, list_of, members, optional, needed, name_of, object_of}
use Rattle.cd_module.specs.declared.fault.LoadFault.{LoadFault}
use Rattle.cd_log.specs.declared.log.Log.{Log}
use Rattle.cd_log.specs.declared.logs.Logs.{Logs}
use Rattle.cd_log.specs.declared.logs.LogsByName.{LogsByName}
use Rattle.cd_log.specs.declared.writer.Writer.{Writer}
use Rattle.cd_log.specs.declared.writer.Writer.TheVariants.{Stdout, Stderr, Discard, File}

-- ---- writers

-- the name of each one's module
abbrev pub output_name : Writer → List ℕ
output_name Stdout = codes "stdout"
output_name Stderr = codes "stderr"
output_name Discard = codes "discard"
output_name (File name) = codes "file"

-- the name of what is opened for it
abbrev pub key_name : Writer → List ℕ
key_name Stdout = codes "stdout"
key_name Stderr = codes "stderr"
key_name Discard = codes "discard"
key_name (File name) = codes "file:" ++ name

abbrev pub key_of : Writer → Key
key_of writer = key.Writer (key_name writer)

-- the writer of that name, of those without settings
abbrev pub stream_named : List ℕ → Option Writer
stream_named name =
    if bytes_eq name (codes "stdout") then Some Stdout else
    (if bytes_eq name (codes "stderr") then Some Stderr else
    (if bytes_eq name (codes "discard") then Some Discard else None))

-- the ids of writers, by their names
abbrev pub writer_id : List ℕ → List ℕ
writer_id name = codes "caddy.logging.writers." ++ name

abbrev pub stream_or_unknown : Option Writer → List ℕ → Reader Writer
stream_or_unknown None name t at = Err (unknown_module (writer_id name) at)
stream_or_unknown (Some stream) name t at = members (codes "output") t at ▷ λ _. Ok stream

unfoldable pub file : Reader Writer
file t at =
    members (codes "output filename") t at ▷ λ ms.
    needed text (codes "filename") ms at ▷ λ name.
    Ok (File name)

unfoldable pub writer_named : List ℕ → Reader Writer
writer_named name t at = if bytes_eq name (codes "file") then file t at else stream_or_unknown (stream_named name) name t at

-- a writer: its name is read before anything else
unfoldable pub writer : Reader Writer
writer t at = name_of (codes "output") t at ▷ λ name. writer_named name t at

-- ---- logs

-- an entry of `include` or `exclude` that speaks of access logs
abbrev pub is_access : List ℕ → Bool
is_access entry = starts_with nat_eq entry (codes "http.log.access")

-- a log takes the lines of access logs where nothing is included or they are, and they are not excluded
abbrev pub takes_access : List (List ℕ) → List (List ℕ) → Bool
takes_access include exclude = (length include == 0 || list_any is_access include) && not (list_any is_access exclude)

-- an encoder and a level have no effect so far
unfoldable pub without_effect : List Member → Path → Result (Unit {0}) LoadFault
without_effect ms at =
    optional unread_object (codes "encoder") ms at ▷ λ _.
    optional text (codes "level") ms at ▷ λ _.
    Ok tt

-- whether the lines of access logs are taken
unfoldable pub access_said : List Member → Path → Result Bool LoadFault
access_said ms at =
    optional (list_of text) (codes "include") ms at ▷ λ include.
    optional (list_of text) (codes "exclude") ms at ▷ λ exclude.
    Ok (takes_access (unwrap_or include []) (unwrap_or exclude []))

-- the members of a log of that name, which goes to standard error where no writer is given
unfoldable pub log_members : List ℕ → List Member → Path → Result Log LoadFault
log_members name ms at =
    optional writer (codes "writer") ms at ▷ λ given.
    without_effect ms at ▷ λ _.
    access_said ms at ▷ λ access.
    Ok (record { name = name; writer = unwrap_or given Stderr; access = access })

unfoldable pub named_log : List ℕ → Reader Log
named_log name t at =
    members (codes "writer encoder level include exclude") t at ▷ λ ms.
    log_members name ms at

-- the logs by rising name
unfoldable pub logs_by_name : Reader LogsByName
logs_by_name t at = object_of named_log t at ▷ λ found. Ok (record { logs = found })

abbrev pub logs_or_none : Option LogsByName → List Log
logs_or_none None = []
logs_or_none (Some found) = found.logs

-- ---- the whole

unfoldable pub logging : Reader Logs
logging t at =
    members (codes "logs") t at ▷ λ ms.
    optional logs_by_name (codes "logs") ms at ▷ λ found.
    Ok (record { logs = logs_or_none found })

-- where nothing is said of logging there are no logs
abbrev pub logs_given : Option Logs → Logs
logs_given None = record { logs = [] }
logs_given (Some logs) = logs
