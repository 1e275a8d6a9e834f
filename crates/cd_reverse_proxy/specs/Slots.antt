-- Lanes with their peers while they are served: for the clauses of private functions.
use Rattle.std.specs.Prelude.{◌≡◌, ◌≤◌, ℕ, Bool, false, List, [], All, length, Option}
use Rattle.cd_outside.specs.declared.address.Address.{Address}
use Rattle.cd_outside.specs.declared.past.Past.{Past}
use Rattle.cd_outside.specs.Devices.{device}
use Rattle.cd_peers.specs.declared.dialled.Dialled.{Dialled}
use Rattle.cd_peers.specs.declared.limits.TheConstants.{MAX_PLACES}
use Rattle.cd_reverse_proxy.specs.declared.slot.Slot.{Slot}
use Rattle.cd_reverse_proxy.specs.Workers.{IsRelayedWorker}

module _ {L P : Type 0} (upstreams : List Address) (connected : L → Bool) (faults : L → ℕ) (past : L → Option Past)
    (dialled : P → Bool) (failed : P → ℕ) (told : P → Option (List Dialled)) where
  -- the lane of a slot was served to its end by its peers
  pub record IsRelayedSlot (s t : Slot L P) : Type 0 where
    pub lane : connected t.lane ≡ false
    pub peers : dialled t.peers ≡ false
    pub worker : IsRelayedWorker upstreams (record { lane = device past faults s.lane t.lane; peers = device told failed s.peers t.peers }) t.end

-- a list of slots has none yet, and its memory has room for so many
pub record HasRoom {L P : Type 0} (slots : List (Slot L P)) (capacity count : ℕ) : Type 0 where
  pub empty : slots ≡ []
  pub room : count ≤ capacity

module _ {L P : Type 0} (connected : L → Bool) (dialled : P → Bool) where
  -- the lanes may be served, each by its peers: none has a connection, and no peers have an exchange
  pub record AreReady (lanes : List L) (peers : List P) : Type 0 where
    pub some : 1 ≤ length lanes
    pub few : length lanes ≤ MAX_PLACES
    pub each : length peers ≡ length lanes
    pub lanes_idle : All (λ lane. connected lane ≡ false) lanes
    pub peers_idle : All (λ of_lane. dialled of_lane ≡ false) peers

  -- they are back, as many as there were, and idle again
  pub record AreBack (lanes lanes_now : List L) (peers peers_now : List P) : Type 0 where
    pub as_many_lanes : length lanes_now ≡ length lanes
    pub as_many_peers : length peers_now ≡ length peers
    pub lanes_idle : All (λ lane. connected lane ≡ false) lanes_now
    pub peers_idle : All (λ of_lane. dialled of_lane ≡ false) peers_now
