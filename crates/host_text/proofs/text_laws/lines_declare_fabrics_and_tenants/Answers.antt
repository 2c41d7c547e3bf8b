use Rattle.host_text.proofs.Declared.{fabrics, tenants}
use Rattle.host_text.proofs.text_laws.lines_declare_fabrics_and_tenants.Goals as goal

pub returns : goal.returns
returns c = record { fabrics = fabrics; tenants = tenants }
