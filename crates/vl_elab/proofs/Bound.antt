-- The operators of the flat design's expressions are bound as the grammar's terms are.
use Rattle.std.proofs.Common.{◌≡◌, Bool, true, false, List, [], ◌∷◌, refl, ap, ◌∙◌}
use Rattle.std.specs.Prelude.{nat_lt, if◌then◌else◌}
use Rattle.elab_plain.specs.vl_tree.specs.declared.tree.BinaryOperator.{BinaryOperator}
use Rattle.elab_plain.specs.vl_tree.specs.declared.tree.Binary.{Binary, out-Binary}
use Rattle.elab_plain.specs.vl_tree.specs.declared.tree.Link.{Link, out-Link}
use Rattle.elab_plain.specs.vl_tree.specs.declared.tree.Name as n
use Rattle.elab_plain.specs.vl_tree.specs.declared.tree.SystemCall as y
use Rattle.elab_plain.specs.vl_tree.specs.declared.tree.Primary as p
use Rattle.elab_plain.specs.vl_tree.specs.declared.tree.Unary.{Unary, out-Unary}
use Rattle.elab_plain.specs.vl_tree.specs.Binding.{Term, operand, join, joined, bound_from, term_of, row_of}
use Rattle.elab_plain.specs.vl_flat.specs.Binding as f
use Rattle.elab_plain.specs.vl_flat.specs.Surface as x
use Rattle.elab_plain.specs.Listed.{unary, linked}
use Rattle.elab_plain.proofs.Opens.{binary-opens}
use Rattle.vl_elab.specs.Terms.{surface}

-- behind an operand that is no operator on two
abbrev Behind : x.Ex → Type 0
Behind a = (o : BinaryOperator) (e : x.Ex) → x.bound_with a o e ≡ x.Binary (x.place_of a) o a e

behind-name : (v : n.Name) → Behind (f.named v)
behind-name (n.Name' q i h row) = λ o e. refl

behind-system : (v : y.SystemCall) → Behind (f.system v)
behind-system (y.SystemCall' q t given) = λ o e. refl

behind-primary : (v : p.Primary) → Behind (f.primary v)
behind-primary (p.Number q k) = λ o e. refl
behind-primary (p.Str q text) = λ o e. refl
behind-primary (p.Name v) = behind-name v
behind-primary (p.Parenthesized' q h row) = λ o e. refl
behind-primary (p.Concatenation' q h row) = λ o e. refl
behind-primary (p.Replication' q h count h' row) = λ o e. refl
behind-primary (p.Call' v h row) = λ o e. refl
behind-primary (p.System v) = behind-system v

behind-operand : (u : Unary) → Behind (unary u)
behind-operand u = by (out-Unary u).operators
  where
    by : (marks : List _) → Behind (f.marked marks (f.primary (out-Unary u).primary))
    by [] = behind-primary (out-Unary u).primary
    by (m ∷ ms) = λ o e. refl

-- one more operator with its operand
one-more : (t : Term) (o : BinaryOperator) (u : Unary) → x.bound_with (surface t) o (unary u) ≡ surface (joined t o u)
one-more (operand v) o u = behind-operand v o (unary u)
one-more (join q l r) o u = by (nat_lt (row_of o) (row_of q)) (one-more r o u)
  where
    by : (tighter : Bool) → x.bound_with (surface r) o (unary u) ≡ surface (joined r o u)
        → (if tighter then x.Binary (x.place_of (surface l)) q (surface l) (x.bound_with (surface r) o (unary u))
        else x.Binary (x.place_of (surface l)) o (x.Binary (x.place_of (surface l)) q (surface l) (surface r)) (unary u))
        ≡ surface (if tighter then join q l (joined r o u) else join o (join q l r) (operand u))
    by true inside = ap (x.Binary (x.place_of (surface l)) q (surface l)) inside
    by false inside = refl

more : (ls : List Link) (t : Term) → linked ls (surface t) ≡ surface (bound_from t ls)
more [] t = refl
more (l ∷ ls) t = ap (linked ls) (one-more t (out-Link l).operator (out-Link l).operand) ∙ more ls (joined t (out-Link l).operator (out-Link l).operand)

pub binary-bound : (e : Binary) → f.binary e ≡ surface (term_of e)
binary-bound e = binary-opens e ∙ more (out-Binary e).links (operand (out-Binary e).first)
