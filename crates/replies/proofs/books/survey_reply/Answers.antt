-- `books::survey_reply`: the line of what `survey` answers.
use Rattle.replies.proofs.ReplyLaws.{survey-replies}
use Rattle.replies.proofs.books.survey_reply.Goals as goal

pub returns : goal.returns
returns c = search (survey-replies)
