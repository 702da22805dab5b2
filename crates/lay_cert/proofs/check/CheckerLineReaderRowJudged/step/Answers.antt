use Rattle.lay_cert.proofs.Judging.{is_sound}
use Rattle.lay_cert.proofs.check.CheckerLineReaderRowJudged.step.Goals as goal

pub state_after-requires : goal.state_after-requires
state_after-requires c = let at = c.requires.at in is_sound c.args.self.state c.args.self.judged at.0 at.1
