-- What a disk in memory says of its moments: each of its writes and syncs takes one.
use Rattle.std.proofs.Common.{◌≡◌, ◌⊎◌, inl, inr, ⊎_elim, ℕ, List, [], ◌∷◌, ◌++◌, length, Option, Some, ap, arith, length-append}
use Rattle.cd_autosave.specs.Disk.{IsPresent, Throughout, IsUnchanged}
use Rattle.cd_autosave.specs.Memory.{after_all, begun, IsImage, LeftAt, now_or}
use Rattle.cd_autosave.specs.MemoryLaws.{present_law}
use Rattle.cd_autosave.specs.declared.disk_call.DiskCall.{DiskCall}
use Rattle.cd_autosave.specs.declared.memory_disk.MemoryDisk.{MemoryDisk}
use Rattle.cd_autosave.proofs.Clock.{loosened, ticked, stopped, unchanged_still}
use Rattle.cd_autosave.proofs.Putting.{alike_pushed, alike_same}

abbrev seen_of : MemoryDisk → Option (List ℕ)
seen_of disk = Some (now_or disk.changed disk.first)

abbrev images_of : MemoryDisk → List ℕ → Type 0
images_of disk c = IsImage (after_all (begun disk.first) disk.calls) c

abbrev clock_of : MemoryDisk → ℕ
clock_of disk = length disk.calls

abbrev left_of : MemoryDisk → ℕ → List ℕ → Type 0
left_of disk n c = LeftAt disk.first disk.calls n c

present_of : (disk : MemoryDisk) → IsPresent images_of clock_of left_of disk
present_of disk = present_law disk.first disk.calls

-- a call that failed
pub memory_stopped : (a b : MemoryDisk) → b.first ≡ a.first → b.calls ≡ a.calls → Throughout clock_of left_of a b (λ image. images_of a image ⊎ images_of b image)
memory_stopped a b same none =
    stopped clock_of left_of a b _ (ap length none) (λ n. alike_same a.first b.first a.calls b.calls same none n) (λ image left. inl ((present_of a image).0 left))

pub memory_ticked : (a b : MemoryDisk) (call : DiskCall) → b.first ≡ a.first → b.calls ≡ a.calls ++ call ∷ [] → Throughout clock_of left_of a b (λ image. images_of a image ⊎ images_of b image)
memory_ticked a b call same pushed =
    ticked clock_of left_of a b _ (omega (arith, ap length pushed, length-append a.calls (call ∷ []))) (λ n low. alike_pushed a.first b.first a.calls b.calls call same pushed n low)
    (λ image left. inl ((present_of a image).0 left)) (λ image left. inr ((present_of b image).0 left))

-- a read, or a sync that failed
pub memory_still : (a b : MemoryDisk) → b.first ≡ a.first → b.calls ≡ a.calls → seen_of b ≡ seen_of a → ((image : List ℕ) → images_of b image → images_of a image) → IsUnchanged seen_of images_of clock_of left_of a b
memory_still a b first none same fewer =
    unchanged_still clock_of left_of images_of present_of seen_of a b same (ap length none) (λ n. alike_same a.first b.first a.calls b.calls first none n) fewer

pub memory_synced : (a b : MemoryDisk) (call : DiskCall) → b.first ≡ a.first → b.calls ≡ a.calls ++ call ∷ [] → seen_of b ≡ seen_of a → ((image : List ℕ) → images_of b image → images_of a image)
    → IsUnchanged seen_of images_of clock_of left_of a b
memory_synced a b call first pushed same fewer = record {
  reads = same;
  fewer = fewer;
  meanwhile = loosened clock_of left_of a b _ (images_of a) (memory_ticked a b call first pushed) (λ image. ⊎_elim (λ left. left) (fewer image));
}
