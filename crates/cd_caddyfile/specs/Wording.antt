-- Part of the main theorem.
-- The words of a fault.
use Rattle.std.specs.Prelude.{ℕ, List, ◌++◌, codes, decimal}
use Rattle.cd_caddyfile.specs.declared.fault.CaddyfileFault.{CaddyfileFault}
use Rattle.cd_caddyfile.specs.declared.fault.CaddyfileKind.{CaddyfileKind}
use Rattle.cd_caddyfile.specs.declared.fault.CaddyfileKind.TheVariants.{BadText, BadBlock, BadAddress, RepeatedSite, UnknownDirective, BadArguments, UnknownMatcher, RepeatedMatcher, TooLong, TooDeep, NoMemory}

abbrev pub kind_words : CaddyfileKind → List ℕ
kind_words BadText = codes "bad text"
kind_words BadBlock = codes "bad block"
kind_words BadAddress = codes "bad site address"
kind_words RepeatedSite = codes "repeated site"
kind_words UnknownDirective = codes "unknown directive"
kind_words BadArguments = codes "bad arguments"
kind_words UnknownMatcher = codes "unknown matcher"
kind_words RepeatedMatcher = codes "repeated matcher"
kind_words TooLong = codes "too long"
kind_words TooDeep = codes "nested too deeply"
kind_words NoMemory = codes "out of memory"

-- its line, and what is wrong there
abbrev pub fault_words : CaddyfileFault → List ℕ
fault_words fault = codes "line " ++ (decimal fault.line ++ (codes ": " ++ kind_words fault.kind))
