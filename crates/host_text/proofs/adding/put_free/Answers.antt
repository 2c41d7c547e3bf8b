use Rattle.host_text.proofs.adding.put_free.Goals as goal

pub returns-clause-kept : goal.returns-clause-kept
returns-clause-kept c = record {
  fabrics = c.requires.kept.fabrics;
  tenants = c.requires.kept.tenants;
  few_fabrics = c.requires.kept.few_fabrics;
  few_tenants = c.requires.kept.few_tenants;
}
