-- Variants that differ, and what is in equal ones.
use Rattle.std.proofs.Common.{◌≡◌, Some, None, Result, Ok, Err}
pub use Rattle.ten_plan.specs.vl_base.proofs.Options.{some_parts as some_same}

pub some_none : {A : Type 0} (x : A) → Some x ≡ None → ⊥
some_none x e = cc

pub err_ok : {A E : Type 0} (r : Result A E) (x : E) (y : A) → r ≡ Err x → r ≡ Ok y → ⊥
err_ok r x y e k = cc

pub ok_same : {A E : Type 0} (r : Result A E) (x y : A) → r ≡ Ok x → r ≡ Ok y → x ≡ y
ok_same r x y e k = cc

pub err_same : {A E : Type 0} (r : Result A E) (x y : E) → r ≡ Err x → r ≡ Err y → x ≡ y
err_same r x y e k = cc
