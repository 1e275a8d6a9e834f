-- Part of the main theorem.
-- What refused bytes are answered.
use Rattle.std.specs.Prelude.{ℕ}
use Rattle.cd_wire.specs.declared.fault.WireFault.{WireFault}
use Rattle.cd_wire.specs.declared.fault.WireFault.TheVariants.{BadHead, BadTarget, BadHost, BadLength, BodyTooLong, UnknownCoding}

-- Bad Request, Content Too Large or Not Implemented (RFC 9110, sections 15.5.1, 15.5.14 and 15.6.2)
abbrev pub status_of : WireFault → ℕ
status_of BadHead = 400
status_of BadTarget = 400
status_of BadHost = 400
status_of BadLength = 400
status_of BodyTooLong = 413
status_of UnknownCoding = 501
