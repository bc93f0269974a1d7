-- `counts::program_reply`: the line of what `answer` answers.
use Rattle.replies.proofs.ReplyLaws.{program-replies}
use Rattle.replies.proofs.counts.program_reply.Goals as goal

pub returns : goal.returns
returns c = search (program-replies)
