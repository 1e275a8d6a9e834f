use Rattle.cd_caddyfile.proofs.ReaderSteps.{closes_on, strays_on}
use Rattle.cd_caddyfile.proofs.reader.Reader.close.Goals as goal

pub returns-in-Some : goal.returns-in-Some
returns-in-Some c after = closes_on c.args.self.now.notes c.args.self.now.blocks _ _ c.args.number after c.in-Some.ensures

pub returns-in-None : goal.returns-in-None
returns-in-None c after = strays_on c.args.self.now.notes _ c.args.self.now.blocks _ c.args.number after c.in-None.ensures.0 c.in-None.ensures.1
    c.blame.ensures.fault c.blame.ensures.sites c.blame.ensures.defined c.blame.ensures.used c.blame.ensures.tested
