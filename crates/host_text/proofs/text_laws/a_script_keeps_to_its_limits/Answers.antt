use Rattle.host_text.proofs.Limits.{not-bare, within}
use Rattle.host_text.proofs.text_laws.a_script_keeps_to_its_limits.Goals as goal

pub returns : goal.returns
returns c = record { whole = not-bare; limits = within }
