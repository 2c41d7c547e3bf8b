-- Options and results: laws that many proofs use.
use Rattle.std.proofs.Common.{None, Option, Some, false, is_some, refl, ◌≡◌}
use Rattle.std.specs.Prelude.{is_some}

pub some_parts : {X : Type 0} (x y : X) → Some x ≡ Some y → x ≡ y
some_parts x y e = cc

pub none_from : {X : Type 0} (o : Option X) → is_some o ≡ false → o ≡ None
none_from None h = refl
none_from (Some x) h = absurd cc

pub none_by : {X : Type 0} (o : Option X) → is_some o ≡ false → o ≡ None
none_by None e = refl
none_by (Some v) e = cc
