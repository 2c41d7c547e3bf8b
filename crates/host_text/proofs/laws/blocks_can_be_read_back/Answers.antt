use Rattle.host_text.proofs.Reading.{blocks-back}
use Rattle.host_text.proofs.laws.blocks_can_be_read_back.Goals as goal

pub returns : goal.returns
returns c = blocks-back
