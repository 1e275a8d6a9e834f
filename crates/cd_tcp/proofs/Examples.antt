-- Each definition where it holds and where it does not, computed.
use Rattle.std.proofs.Common.{◌≡◌, true, false, refl}
use Rattle.cd_wire.specs.declared.intake.Look.TheVariants as look
use Rattle.cd_tcp.specs.Budgets.{is_too_much}
use Rattle.cd_tcp.specs.Pacing.{slow_after, is_over}
use Rattle.cd_tcp.specs.Waiting.{is_due}
use Rattle.cd_tcp.specs.Tries.{one_more, twice}

-- ---- pauses

a-pause-doubles : twice 50 ≡ 100
a-pause-doubles = refl

the-longest-pause : twice 3200 ≡ 6000
the-longest-pause = refl

one-try-more : one_more 15 ≡ 16
one-try-more = refl

-- ---- how long a client may be slow

a-slow-turn-counts : slow_after 500 1000 65536 ≡ 1500
a-slow-turn-counts = refl

a-fast-turn-does-not : slow_after 500 1000 65537 ≡ 500
a-fast-turn-does-not = refl

two-seconds-where-full : is_over 2000 true ≡ true
two-seconds-where-full = refl

not-where-a-lane-is-free : is_over 2000 false ≡ false
not-where-a-lane-is-free = refl

-- ---- how much is kept

a-body-of-eight-million : is_too_much 8388608 8388608 ≡ false
a-body-of-eight-million = refl

a-head-is-kept-in-any-case : is_too_much 16384 67108865 ≡ false
a-head-is-kept-in-any-case = refl

a-longer-one-is-not : is_too_much 16385 67108865 ≡ true
a-longer-one-is-not = refl

-- ---- when a connection gets a lane

a-whole-request : is_due look.Whole 10 0 ≡ true
a-whole-request = refl

a-byte-is-missing : is_due look.More 9 0 ≡ false
a-byte-is-missing = refl

the-client-has-ended : is_due look.Cut 9 0 ≡ true
the-client-has-ended = refl
