-- Which files are taken for those of saved configurations.
use Rattle.std.specs.Prelude.{ℕ, ◌+◌, ◌==◌, ◌&&◌, ◌||◌, Bool, true, false, nat_lt, if◌then◌else◌, List, length}
use Rattle.cd_autosave.specs.declared.limits.TheConstants.{SECOND_START}
use Rattle.cd_autosave.specs.Image.{byte_at}
use Rattle.cd_disk.specs.declared.gates.TheConstants.{MAX_FILE_BYTES}

-- by the length, and by the bytes at both gates: one past the end counts as 0
abbrev pub fits_gates : ℕ → ℕ → ℕ → Bool
fits_gates size first second =
    if nat_lt MAX_FILE_BYTES size then false
    else if nat_lt first 2 || nat_lt size 2 then true
    else (second == 1) && nat_lt (SECOND_START + 1) size

-- the same of the whole file: a file that is short enough is refused only where its first byte is neither 0 nor 1, it has more than
-- that byte, and the second slot is not open
abbrev pub may_be_saved : List ℕ → Bool
may_be_saved image = fits_gates (length image) (byte_at image 0) (byte_at image SECOND_START)
