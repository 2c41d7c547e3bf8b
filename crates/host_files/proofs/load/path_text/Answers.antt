use Rattle.host_files.proofs.Ascii.{path-utf8}
use Rattle.host_files.proofs.load.path_text.Goals as goal

pub unreachable-requires : goal.unreachable-requires
unreachable-requires c = c.in-Err.ensures.cases.0 (rw c.as_slice.ensures (path-utf8 _ c.requires))
