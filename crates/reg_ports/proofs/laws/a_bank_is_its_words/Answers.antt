use Rattle.reg_ports.proofs.Beside.{words-bank}
use Rattle.reg_ports.proofs.laws.a_bank_is_its_words.Goals as goal

pub returns : goal.returns
returns c = words-bank
