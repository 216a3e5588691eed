use Rattle.ts_run.proofs.VerifySteps.{end_told}
use Rattle.ts_run.proofs.verify.VerifyingRespond.reply.Goals as goal

pub returns-clause-reply : goal.returns-clause-reply
returns-clause-reply c =
    end_told c.args._command.now c.args.self.0 c.in_ok-end.end c.end_reply.result c.requires.serves c.in_ok-end.ensures.end
    c.end_reply.ensures.reply
