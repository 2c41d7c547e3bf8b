use Rattle.host_text.proofs.Replying.{replies-back}
use Rattle.host_text.proofs.laws.replies_can_be_read_back.Goals as goal

pub returns : goal.returns
returns c = replies-back
