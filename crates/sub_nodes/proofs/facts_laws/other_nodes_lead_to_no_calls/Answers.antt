use Rattle.sub_nodes.proofs.Calling.{no_call_next}
use Rattle.sub_nodes.proofs.facts_laws.other_nodes_lead_to_no_calls.Goals as goal

pub returns : goal.returns
returns c d n x h other = no_call_next d n x h other
