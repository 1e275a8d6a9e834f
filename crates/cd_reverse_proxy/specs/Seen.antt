-- What is seen of the command from outside: each part of the outside as it was before the call and as it is now.
use Rattle.std.specs.Prelude.{◌≡◌, ℕ, List, Option}
use Rattle.cd_outside.specs.declared.fixtures.FixtureCall.{FixtureCall}
use Rattle.cd_outside.specs.declared.past.Past.{Past}
use Rattle.cd_outside.specs.Devices.{Device, device}
use Rattle.cd_peers.specs.declared.dialled.Dialled.{Dialled}
use Rattle.cd_reverse_proxy.specs.declared.ended.ProxyEnded.{ProxyEnded}
use Rattle.cd_reverse_proxy.specs.Workers.{Worker, workers}

-- The output tells what it was given, the fixtures what they were asked for, each lane its connections, and its peers their exchanges.
-- The fixtures, the lanes and the peers are here themselves too, as they were handed in and as they came back. Last is what was counted.
pub record Seen (F L P : Type 0) : Type 0 where
  pub output : Device (List ℕ)
  pub calls : Device (List FixtureCall)
  pub workers : List Worker
  pub fixtures_before : F
  pub fixtures_now : F
  pub lanes_before : List L
  pub lanes_now : List L
  pub peers_before : List P
  pub peers_now : List P
  pub answered : ℕ
  pub cut : ℕ

module _ {F L P : Type 0} (s : Seen F L P) where
  -- no lane was served
  pub record IsUnserved : Type 0 where
    pub lanes : s.lanes_now ≡ s.lanes_before
    pub peers : s.peers_now ≡ s.peers_before
    pub unanswered : s.answered ≡ 0
    pub uncut : s.cut ≡ 0

  -- nothing was opened either
  pub record IsUntouched : Type 0 where
    pub unserved : IsUnserved
    pub fixtures : s.fixtures_now ≡ s.fixtures_before

-- what is seen of a call that was handed an output, fixtures, lanes and peers, and ended so
module _ {O F L P : Type 0} (holds : O → Option (List ℕ)) (sink_faults : O → ℕ) (calls : F → Option (List FixtureCall)) (fixture_faults : F → ℕ)
    (past : L → Option Past) (lane_faults : L → ℕ) (told : P → Option (List Dialled)) (peer_faults : P → ℕ) where
  abbrev pub seen : O → O → F → List L → List P → ProxyEnded F L P → Seen F L P
  seen out out_now fixtures lanes peers e = record {
    output = device holds sink_faults out out_now;
    calls = device calls fixture_faults fixtures e.fixtures;
    workers = workers past lane_faults told peer_faults lanes e.lanes peers e.peers;
    fixtures_before = fixtures;
    fixtures_now = e.fixtures;
    lanes_before = lanes;
    lanes_now = e.lanes;
    peers_before = peers;
    peers_now = e.peers;
    answered = e.answered;
    cut = e.cut;
  }
