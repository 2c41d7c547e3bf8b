-- Histories, and what their notes tell.
use Rattle.std.proofs.Common.{rules, ◌≡◌, ℕ, ◌<◌, ◌+◌, Bool, cond, eqb, max, List, [], ◌∷◌, ◌++◌, map, length, get_or, set, take, sym, refl, ap, ◌∙◌, subst, append_assoc}
use Rattle.std.specs.Prelude.{All}
use Rattle.std.proofs.lemmas.List.{take_more}
use Rattle.std.proofs.lemmas.List.Elements.{All-cons}
use Rattle.fab_bay.specs.fab_lock.specs.declared.entry.Entry.{Entry}
use Rattle.fab_bay.specs.fab_lock.specs.Histories.{high, Reaches}
use Rattle.fab_desk.proofs.Raising.{raised}
use Rattle.fab_bay.specs.fab_model.specs.declared.note.Note.{Note}
use Rattle.fab_bay.specs.fab_model.specs.Tokens.{AllBear}
use Rattle.fab_bay.specs.Ways.{AreBelow}
use Rattle.fab_bay.specs.fab_model.specs.Histories.{entry_of}
use Rattle.fab_desk.specs.Desks.{itself}

-- each bears the number
pub bears : (k : ℕ) (ns : List Note) → AllBear k ns → All (λ n. n.entry.seat ≡ k) ns
bears k [] b = search rules
bears k (n ∷ ns) b = All-cons (λ (m : Note). m.entry.seat ≡ k) n ns b.0 (bears k ns b.1)

-- each tells of a tenant below the number
pub below : (k : ℕ) (ns : List Note) → AreBelow k ns → All (λ e. e.tenant < k) (map entry_of ns)
below k [] b = search rules
below k (n ∷ ns) b = All-cons (λ (e : Entry). e.tenant < k) n.entry (map entry_of ns) b.0 (below k ns b.1)

-- notes go as far as what they tell
high_told : (t : ℕ) (ns : List Note) → high entry_of t ns ≡ high itself t (map entry_of ns)
high_told t [] = refl
high_told t (n ∷ ns) = ap (λ (h : ℕ). cond (eqb n.entry.tenant t) (max n.entry.to h) h) (high_told t ns)

pub reaches_told : (count : ℕ) (words : List ℕ) (ns : List Note) → Reaches entry_of count words ns → Reaches itself count words (map entry_of ns)
reaches_told count words ns r = (r.0, λ i l. r.1 i l ∙ high_told i ns)

pub reaches_notes : (count : ℕ) (words : List ℕ) (ns : List Note) → Reaches itself count words (map entry_of ns) → Reaches entry_of count words ns
reaches_notes count words ns r = (r.0, λ i l. r.1 i l ∙ sym (high_told i ns))

-- an entry more
pub reaches_next : (count : ℕ) (words : List ℕ) (found entries : List Entry) (k : ℕ) (d : Entry) (x : ℕ) → Reaches itself count words (found ++ take k entries) → k < length entries → (get_or entries k d).tenant < count
    → x ≡ max (get_or words (get_or entries k d).tenant 0) (get_or entries k d).to → Reaches itself count (set words (get_or entries k d).tenant x) (found ++ take (k + 1) entries)
reaches_next count words found entries k d x r l in' is = let e : Entry = get_or entries k d in
    subst (Reaches itself count (set words e.tenant x)) (append_assoc found (take k entries) (e ∷ []) ∙ ap (λ (t : List Entry). found ++ t) (sym (take_more entries k d l)))
    (subst (λ (y : ℕ). Reaches itself count (set words e.tenant y) ((found ++ take k entries) ++ e ∷ [])) (sym is) (raised itself count words (found ++ take k entries) e r in'))
