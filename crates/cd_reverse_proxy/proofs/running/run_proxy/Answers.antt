use Rattle.std.proofs.Common.{◌∙◌, ℕ, [], ◌∷◌, List, refl, subst, sym}
use Rattle.cd_outside.specs.declared.fixtures.FixtureCall.TheVariants as call
use Rattle.cd_outside.specs.declared.key.Key.TheVariants as key
use Rattle.cd_outside.specs.Devices.{device}
use Rattle.cd_outside.specs.Lines.{Says}
use Rattle.cd_reverse_proxy.specs.declared.status.Status.TheVariants as status
use Rattle.cd_reverse_proxy.specs.Running.{closing_calls}
use Rattle.cd_reverse_proxy.specs.Seen.{seen}
use Rattle.cd_reverse_proxy.proofs.Ends.{calls-join, proxies-of}
use Rattle.cd_reverse_proxy.proofs.running.run_proxy.Goals as goal

pub returns-in-Ready-clause-ends : goal.returns-in-Ready-clause-ends
returns-in-Ready-clause-ends g c =
    rw (sym c.into_vec.ensures, sym c.into_vec-in-Ready.ensures)
    (proxies-of c.args.settings
    (seen g.O.Sink.holds g.O.Sink.faults g.F.Fixtures.calls g.F.Fixtures.faults g.L.Lane.past g.L.Lane.faults g.P.Peers.past g.P.Peers.faults
    c.args.out.now c.run_opened.new.out c.args.fixtures c.into_vec.result.items c.into_vec-in-Ready.result.items c.run_opened.result)
    (calls-join (g.F.Fixtures.calls c.args.fixtures) (g.F.Fixtures.calls c.open_key.new.self) (g.F.Fixtures.calls c.run_opened.result.fixtures)
    (call.Opened (key.Listen c.args.settings.from) ∷ []) (closing_calls (key.Listen c.args.settings.from)) c.in-Ready.ensures.calls c.run_opened.ensures.calls)
    c.as_slice.result.now c.run_opened.result.status (c.as_slice.ensures ∙ c.in-Ok.ensures.shared) c.run_opened.ensures.runs)

pub returns-clause-back : goal.returns-clause-back
returns-clause-back g c =
    rw c.unserved-in-Failed.ensures (record { as_many_lanes = refl; as_many_peers = refl; lanes_idle = c.requires.ready.lanes_idle; peers_idle = c.requires.ready.peers_idle })

pub returns-clause-ends : goal.returns-clause-ends
returns-clause-ends g c =
    rw c.unserved-in-Failed.ensures (record {
      status = status.Unopened;
      is = refl;
      so = record {
        calls = c.in-Failed.ensures.calls;
        cause = c.in-Failed.ensures.cause.rose refl;
        says = subst (λ (line : List ℕ). Says line (device g.O.Sink.holds g.O.Sink.faults c.args.out.now c.say.new.out)) (c.as_str.ensures ∙ c.in-Ok.ensures.refusal) c.say.ensures.says;
        unserved = record { lanes = refl; peers = refl; unanswered = refl; uncut = refl };
      };
    })
