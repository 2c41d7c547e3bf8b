-- The faults of selects, of arguments and of expressions, one after another.
use Rattle.std.proofs.Common.{◌≡◌, refl, sym, ap, ◌∙◌, arith, ℕ, zero, suc, ◌-◌, ◌≤◌, Bool, true, false, List, [], ◌++◌, map}
use Rattle.std.specs.Prelude.{Option, ◌&&◌, if◌then◌else◌}
use Rattle.std.proofs.lemmas.Bool.{true≢false, false≢true}
use Rattle.vl_design.specs.declared.stop.Stop.{Stop}
use Rattle.vl_design.specs.Stops.{earliest}
use Rattle.elab_plain.specs.vl_flat.specs.Surface as x
use Rattle.elab_plain.specs.vl_flat.specs.Scopes.{Scope}
use Rattle.elab_plain.specs.vl_flat.specs.ExpressionFaults.{past, faults, all_faults, argument_faults, display_faults}
use Rattle.elab_plain.specs.declared.surface.Ex as e
use Rattle.elab_plain.specs.Seen.{seen}
use Rattle.elab_plain.specs.Listed.{of_list}
use Rattle.elab_faults.specs.Walked.{is_text, taken_by}
use Rattle.vl_design.proofs.Earliest.{chain}

-- what an expression has to pass by itself, and then the faults of its operands
pub own-then : (S : Scope) (b m r : Option Stop) (e z : x.Ex) (q : List Stop) → m ≡ earliest b (past S e) → e ≡ z → r ≡ earliest m q → faults S z ≡ past S z ++ q → r ≡ earliest b (faults S e)
own-then S b m r e z q h is k f =
    chain b m r (past S e) q h k ∙ sym (ap (earliest b) (ap (faults S) is ∙ (f ∙ ap (λ w. past S w ++ q) (sym is))))

-- an operand, and operands, of what stands in a node
pub at-node : (S : Scope) (m r : Option Stop) (d v : e.Ex) → r ≡ earliest m (faults S (seen d)) → d ≡ v → r ≡ earliest m (faults S (seen v))
at-node S m r d v h is = h ∙ ap (λ z. earliest m (faults S (seen z))) is

pub at-all : (S : Scope) (m r : Option Stop) (d v : List e.Ex) → r ≡ earliest m (all_faults S (of_list (map seen d))) → d ≡ v → r ≡ earliest m (all_faults S (of_list (map seen v)))
at-all S m r d v h is = h ∙ ap (λ z. earliest m (all_faults S (of_list (map seen z)))) is

-- a string where strings stay as they are, and any other argument
argument-is : (S : Scope) (k : Bool) (e : x.Ex) (own : List Stop) → argument_faults S k e own ≡ (if k && is_text e then [] else own)
argument-is S false e own = refl
argument-is S true (x.Text q t) own = refl
argument-is S true (x.Number q n) own = refl
argument-is S true (x.Named q n ss) own = refl
argument-is S true (x.Paren q a) own = refl
argument-is S true (x.Unary q p a) own = refl
argument-is S true (x.Binary q p a b) own = refl
argument-is S true (x.Choice q t a b) own = refl
argument-is S true (x.Joined q es) own = refl
argument-is S true (x.Repeated q n es) own = refl
argument-is S true (x.Called q n es) own = refl
argument-is S true (x.System q n as') own = refl

pub text-kept : (S : Scope) (k : Bool) (e : x.Ex) (own : List Stop) → (k && is_text e) ≡ true → argument_faults S k e own ≡ []
text-kept S k e own h = argument-is S k e own ∙ ap (λ b. if b then [] else own) h

pub text-other : (S : Scope) (k : Bool) (e : x.Ex) (own : List Stop) → (k && is_text e) ≡ false → argument_faults S k e own ≡ own
text-other S k e own h = argument-is S k e own ∙ ap (λ b. if b then [] else own) h

-- an argument of a display that no item takes
pub shown-text : (S : Scope) (e : x.Ex) (o : x.Args) → is_text e ≡ true → display_faults S 0 (x.MoreArgs e o) ≡ display_faults S (taken_by e) o
shown-text S (x.Text q t) o h = refl
shown-text S (x.Number q n) o h = absurd (false≢true h)
shown-text S (x.Named q n ss) o h = absurd (false≢true h)
shown-text S (x.Paren q a) o h = absurd (false≢true h)
shown-text S (x.Unary q p a) o h = absurd (false≢true h)
shown-text S (x.Binary q p a b) o h = absurd (false≢true h)
shown-text S (x.Choice q t a b) o h = absurd (false≢true h)
shown-text S (x.Joined q es) o h = absurd (false≢true h)
shown-text S (x.Repeated q n es) o h = absurd (false≢true h)
shown-text S (x.Called q n es) o h = absurd (false≢true h)
shown-text S (x.System q n as') o h = absurd (false≢true h)

pub shown-other : (S : Scope) (e : x.Ex) (o : x.Args) → is_text e ≡ false → display_faults S 0 (x.MoreArgs e o) ≡ faults S e ++ display_faults S 0 o
shown-other S (x.Text q t) o h = absurd (true≢false h)
shown-other S (x.Number q n) o h = refl
shown-other S (x.Named q n ss) o h = refl
shown-other S (x.Paren q a) o h = refl
shown-other S (x.Unary q p a) o h = refl
shown-other S (x.Binary q p a b) o h = refl
shown-other S (x.Choice q t a b) o h = refl
shown-other S (x.Joined q es) o h = refl
shown-other S (x.Repeated q n es) o h = refl
shown-other S (x.Called q n es) o h = refl
shown-other S (x.System q n as') o h = refl

-- an argument that an item takes, and a null one
pub shown-taken : (S : Scope) (n : ℕ) (e : x.Ex) (o : x.Args) → 1 ≤ n → display_faults S n (x.MoreArgs e o) ≡ faults S e ++ display_faults S (n - 1) o
shown-taken S zero e o h = absurd (omega arith)
shown-taken S (suc n) e o h = let d : n ≡ suc n - 1 = omega arith in ap (λ m. faults S e ++ display_faults S m o) d

pub shown-null : (S : Scope) (n : ℕ) (o : x.Args) → display_faults S n (x.NullArg o) ≡ display_faults S (n - 1) o
shown-null S zero o = refl
shown-null S (suc n) o = let d : n ≡ suc n - 1 = omega arith in ap (λ m. display_faults S m o) d

pub shown-none : (S : Scope) (n : ℕ) → display_faults S n x.NoArgs ≡ []
shown-none S zero = refl
shown-none S (suc n) = refl
