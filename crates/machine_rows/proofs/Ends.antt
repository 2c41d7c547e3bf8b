-- What has no end has none.
use Rattle.std.proofs.Common.{◌≡◌, false, Option, Some, None, refl}
use Rattle.std.specs.Prelude.{is_some}
pub use Rattle.vl_design.specs.vl_base.proofs.Options.{none_by as none-of}
