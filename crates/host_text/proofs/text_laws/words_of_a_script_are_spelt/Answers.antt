use Rattle.host_text.proofs.Spelt.{spelt}
use Rattle.host_text.proofs.text_laws.words_of_a_script_are_spelt.Goals as goal

pub returns : goal.returns
returns c = λ bytes s e. spelt bytes s e
