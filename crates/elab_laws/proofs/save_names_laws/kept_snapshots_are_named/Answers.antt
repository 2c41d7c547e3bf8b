use Rattle.elab_laws.proofs.Snapshots.{kept-named}
use Rattle.elab_laws.proofs.save_names_laws.kept_snapshots_are_named.Goals as goal

pub returns : goal.returns
returns c = λ o free k saved names errands frees h. kept-named o free names errands frees k saved h
