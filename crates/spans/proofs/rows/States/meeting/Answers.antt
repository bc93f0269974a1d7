-- `States::meeting`: a state in common.
use Rattle.spans.proofs.RowLaws.{meeting-made}
use Rattle.spans.proofs.rows.States.meeting.Goals as goal

pub returns : goal.returns
returns c = search (meeting-made)
