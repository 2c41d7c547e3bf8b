-- The value of an expression depends only on the signals that it reads.
use Rattle.std.proofs.Common.{◌≡◌, ℕ, Bool, true, false, List, [], ◌∷◌, refl}
use Rattle.std.specs.Prelude.{◌||◌}
use Rattle.vl_design.specs.declared.design.Form.{Form}
use Rattle.vl_design.specs.Syntax.{Exp, Num, Label, Sig, Word, Pick, Slice, Un, Bin, Cond, Cat, Rep, Cast, Call, Time, LastAnswer, Exps, NoExps, MoreExps}
use Rattle.vl_design.specs.Width.{Scope, form}
use Rattle.vl_design.specs.Value.{Sample, value, side_by_side, arguments}
use Rattle.vl_design.specs.Reads.{reads, some_reads}
use Rattle.vl_design.specs.Laws.{DifferIn}
pub use Rattle.vl_base.proofs.Booleans.{or_parts_false as or_false}

module _ (scope : Scope) (p : ℕ → Bool) (s t : Sample) (d : DifferIn p s t) where
  mutual
    pub value_unread : (e : Exp) → reads p e ≡ false → (c : Form) → value scope s e c ≡ value scope t e c
    value_unread (Num v w signed) h c = refl
    value_unread (Label v care w signed) h c = refl
    value_unread (Sig k) h c = rw (d.values k h) refl
    value_unread (Word m a) h c = let g = or_false (p m) (reads p a) h in rw (value_unread a g.1 (form scope.names a), d.values m g.0) refl
    value_unread (Pick b i from w) h c = let g = or_false (reads p b) (reads p i) h in rw (value_unread b g.0 (form scope.names b), value_unread i g.1 (form scope.names i)) refl
    value_unread (Slice b low w) h c = rw (value_unread b h (form scope.names b)) refl
    value_unread (Un op a) h c = rw (value_unread a h _) refl
    value_unread (Bin op a b) h c = let g = or_false (reads p a) (reads p b) h in rw (value_unread a g.0 _, value_unread b g.1 _) refl
    value_unread (Cond u a b) h c =
        let g = or_false (reads p u) (reads p a || reads p b) h in
        let f = or_false (reads p a) (reads p b) g.1 in
        rw (value_unread u g.0 (form scope.names u), value_unread a f.0 c, value_unread b f.1 c) refl
    value_unread (Cat es) h c = side_unread es h
    value_unread (Rep n es) h c = rw (side_unread es h) refl
    value_unread (Cast signed a) h c = rw (value_unread a h (form scope.names a)) refl
    value_unread (Call f es) h c = rw (arguments_unread es h _) refl
    value_unread Time h c = rw (d.time) refl
    value_unread LastAnswer h c = rw (d.answer) refl

    pub side_unread : (es : Exps) → some_reads p es ≡ false → side_by_side scope s es ≡ side_by_side scope t es
    side_unread NoExps h = refl
    side_unread (MoreExps e es) h = let g = or_false (reads p e) (some_reads p es) h in rw (value_unread e g.0 (form scope.names e), side_unread es g.1) refl

    pub arguments_unread : (es : Exps) → some_reads p es ≡ false → (ws : List ℕ) → arguments scope s es ws ≡ arguments scope t es ws
    arguments_unread NoExps h ws = refl
    arguments_unread (MoreExps e es) h [] = refl
    arguments_unread (MoreExps e es) h (w ∷ ws) = let g = or_false (reads p e) (some_reads p es) h in rw (value_unread e g.0 _, arguments_unread es g.1 ws) refl
