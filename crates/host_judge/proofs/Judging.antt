-- A source is judged in one way.
use Rattle.std.proofs.Common.{◌≡◌, ℕ, List, refl, sym, ap, ◌∙◌}
use Rattle.ten_core.specs.vl_design.specs.Syntax.{Flat}
use Rattle.host_files.specs.host_text.specs.vl_base.specs.declared.place.Place.{Place}
use Rattle.vl_front.specs.declared.fault.Kind.{Kind}
use Rattle.vl_front.specs.declared.fault.Kind.TheVariants as kind
use Rattle.vl_front.specs.Sources.{but_cycle, StandsFor, IsRefusal}
use Rattle.host_files.specs.host_form.specs.Laws.{IsOneJudgement}
use Rattle.host_files.specs.host_form.specs.Origins.{Source, Accepted, Faulty}
use Rattle.host_judge.specs.Judged.{judged, kind_words}

-- the words of a kind don't tell which combinational loop is shown
words-but : (a : Kind) → kind_words a ≡ kind_words (but_cycle a)
words-but (kind.Lex cause) = refl
words-but kind.Parse = refl
words-but (kind.Construct number) = refl
words-but (kind.Limit number) = refl
words-but (kind.Loop cycle) = refl

words-once : (a b : Kind) → but_cycle a ≡ but_cycle b → kind_words a ≡ kind_words b
words-once a b e = words-but a ∙ ap kind_words e ∙ sym (words-but b)

module _ (design : (text : List ℕ) (d e : Flat) → StandsFor text d → StandsFor text e → d ≡ e)
    (refusal : (text : List ℕ) (p q : Place) (a b : Kind) → IsRefusal text p a → IsRefusal text q b → (p ≡ q) × (but_cycle a ≡ but_cycle b))
    (not_both : (text : List ℕ) (d : Flat) (p : Place) (a : Kind) → StandsFor text d → IsRefusal text p a → ⊥) where
  pub judged-once : IsOneJudgement judged
  judged-once text (Accepted d) (Accepted e) h k = ap Accepted (design text d e h k)
  judged-once text (Accepted d) (Faulty q words) h k = absurd (not_both text d q k.0 h k.1)
  judged-once text (Faulty p words) (Accepted e) h k = absurd (not_both text e p h.0 k h.1)
  judged-once text (Faulty p words) (Faulty q others) h k =
      let same = refusal text p q h.0 k.0 h.1 k.1 in
      ap (λ (x : Place). Faulty x words) same.0 ∙ ap (λ (w : List ℕ). Faulty q w) (h.2 ∙ words-once h.0 k.0 same.1 ∙ sym k.2)
