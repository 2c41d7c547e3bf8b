use Rattle.fab_model.proofs.Legality.{each_is_lawful}
use Rattle.fab_model.proofs.notes_laws.the_notes_of_each_tenant_are_lawful.Goals as goal

pub returns : goal.returns
returns c = each_is_lawful
