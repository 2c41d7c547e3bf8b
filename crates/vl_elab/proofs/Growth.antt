-- Parts one after another.
use Rattle.std.proofs.Common.{◌≡◌, refl, ap, sym, ◌∙◌, subst, ◌++◌, ℕ, ◌+◌, ◌<◌, List, [], ◌∷◌, map, length, get_or, take, drop}
use Rattle.std.specs.Prelude.{Result, Ok, Err, Some, None, flat_map}
use Rattle.std.specs.Result.{IsErr, IsErrAnd}
use Rattle.std.proofs.lemmas.List.{append_assoc, take_more, take-append-drop}
use Rattle.std.proofs.lemmas.Grind.{flat_map-append}
use Rattle.vl_design.specs.declared.stop.Stop.{Stop}
use Rattle.vl_design.specs.declared.stop.Stop.TheVariants.{Construct, Limit, Memory}
use Rattle.elab_plain.specs.vl_flat.specs.Flat.{Part}
use Rattle.elab_plain.specs.vl_flat.specs.Outcome as o
use Rattle.elab_plain.specs.vl_flat.specs.Outcome.{◌>>=◌}
use Rattle.vl_design.specs.Seen.{func_of, process_of}
use Rattle.vl_elab.specs.declared.making.Making.{Making}
use Rattle.vl_elab.specs.declared.making.Totals.{Totals}
use Rattle.vl_elab.specs.Growing.{totals_of, Grows, Stops, Adds, IsMade, Makes}

then-same : {A B C : Type 0} (r : Result A Stop) (f : A → Result C Stop) (g : A → Result B Stop) (k : B → Result C Stop)
    → ((a : A) → f a ≡ g a >>= k) → r >>= f ≡ (r >>= g) >>= k
then-same (Ok a) f g k h = h a
then-same (Err s) f g k h = refl

pub judged-append : (n : o.Totals) (a b : List Part) → o.judged n (a ++ b) ≡ o.judged n a >>= (λ t. o.judged t b)
judged-append n [] b = refl
judged-append n (x ∷ a) b = then-same (o.judged_part n x) (λ t. o.judged t (a ++ b)) (λ t. o.judged t a) (λ t. o.judged t b) (λ t. judged-append t a b)

both : {A B : Type 0} (f : A → List B) (old mid new : List B) (a b : List A) → mid ≡ old ++ flat_map f a → new ≡ mid ++ flat_map f b → new ≡ old ++ flat_map f (a ++ b)
both f old mid new a b h k = k ∙ (ap (λ z. z ++ flat_map f b) h ∙ (append_assoc old (flat_map f a) (flat_map f b) ∙ sym (ap (λ z. old ++ z) (flat_map-append f a b))))

behind : (n t : o.Totals) (a b : List Part) (r : Result o.Totals Stop) → o.judged n a ≡ Ok t → o.judged t b ≡ r → o.judged n (a ++ b) ≡ r
behind n t a b r h k = judged-append n a b ∙ (ap (λ z. z >>= (λ s. o.judged s b)) h ∙ k)

pub grows-append : (old mid new : Making) (a b : List Part) → Grows old mid a → Grows mid new b → Grows old new (a ++ b)
grows-append old mid new a b g h = record {
  judged = behind (totals_of old.totals) (totals_of mid.totals) a b (Ok (totals_of new.totals)) g.judged h.judged;
  signals = both (λ p. p.signals) old.signals.items mid.signals.items new.signals.items a b g.signals h.signals;
  funcs = both (λ p. p.funcs) (map func_of old.funcs.items) (map func_of mid.funcs.items) (map func_of new.funcs.items) a b g.funcs h.funcs;
  processes = both (λ p. p.processes) (map process_of old.processes.items) (map process_of mid.processes.items) (map process_of new.processes.items) a b g.processes h.processes;
}

pub stops-left : (s : Stop) (t : Totals) (a b : List Part) → Stops s t a → Stops s t (a ++ b)
stops-left (Construct at n) t a b h = judged-append (totals_of t) a b ∙ ap (λ z. z >>= (λ k. o.judged k b)) h
stops-left (Limit at n) t a b h = judged-append (totals_of t) a b ∙ ap (λ z. z >>= (λ k. o.judged k b)) h
stops-left Memory t a b h = tt

pub stops-right : (s : Stop) (old mid : Making) (a b : List Part) → Grows old mid a → Stops s mid.totals b → Stops s old.totals (a ++ b)
stops-right (Construct at n) old mid a b g h = behind (totals_of old.totals) (totals_of mid.totals) a b (Err (Construct at n)) g.judged h
stops-right (Limit at n) old mid a b g h = behind (totals_of old.totals) (totals_of mid.totals) a b (Err (Limit at n)) g.judged h
stops-right Memory old mid a b g h = tt

pub keeps-nothing : {A : Type 0} (xs : List A) → xs ≡ xs ++ []
keeps-nothing [] = refl
keeps-nothing (x ∷ xs) = ap (λ z. x ∷ z) (keeps-nothing xs)

-- one part that was passed
pub one-grows : (old new : Making) (x : Part) → o.part_stop (totals_of old.totals) x ≡ None → totals_of new.totals ≡ o.with_part (totals_of old.totals) x
    → new.signals.items ≡ old.signals.items ++ x.signals
    → map func_of new.funcs.items ≡ map func_of old.funcs.items ++ x.funcs
    → map process_of new.processes.items ≡ map process_of old.processes.items ++ x.processes
    → Grows old new (x ∷ [])
one-grows old new x none totals s f p = record {
  judged = ap (λ z. o.passed (o.with_part (totals_of old.totals) x) z >>= (λ t. o.judged t [])) none ∙ sym (ap (λ t. Ok t) totals);
  signals = s ∙ ap (λ z. old.signals.items ++ z) (keeps-nothing x.signals);
  funcs = f ∙ ap (λ z. map func_of old.funcs.items ++ z) (keeps-nothing x.funcs);
  processes = p ∙ ap (λ z. map process_of old.processes.items ++ z) (keeps-nothing x.processes);
}

-- one part that has a fault
pub one-stops : (stop : Stop) (t : Totals) (x : Part) → o.part_stop (totals_of t) x ≡ Some stop → Stops stop t (x ∷ [])
one-stops (Construct at n) t x h = ap (λ z. o.passed (o.with_part (totals_of t) x) z >>= (λ t. o.judged t [])) h
one-stops (Limit at n) t x h = ap (λ z. o.passed (o.with_part (totals_of t) x) z >>= (λ t. o.judged t [])) h
one-stops Memory t x h = tt

pub grows-nothing : (m : Making) → Grows m m []
grows-nothing m = record {
  judged = refl;
  signals = keeps-nothing m.signals.items;
  funcs = keeps-nothing (map func_of m.funcs.items);
  processes = keeps-nothing (map process_of m.processes.items);
}

-- ---- parts of a list, item by item

last-more : {A : Type 0} (f : A → List Part) (xs : List A) (i : ℕ) (y : A) → i < length xs → y ≡ get_or xs i y → flat_map f (take (i + 1) xs) ≡ flat_map f (take i xs) ++ f y
last-more f xs i y h is =
    ap (flat_map f) (take_more xs i y h)
    ∙ (ap (λ z. flat_map f (take i xs ++ z ∷ [])) (sym is)
    ∙ (flat_map-append f (take i xs) (y ∷ [])
    ∙ ap (λ z. flat_map f (take i xs) ++ z) (sym (keeps-nothing (f y)))))

pub walk-grows : {A : Type 0} (f : A → List Part) (old mid new : Making) (xs : List A) (i : ℕ) (y : A) → i < length xs → y ≡ get_or xs i y
    → Grows old mid (flat_map f (take i xs)) → Grows mid new (f y) → Grows old new (flat_map f (take (i + 1) xs))
walk-grows f old mid new xs i y h is g k = subst (Grows old new) (sym (last-more f xs i y h is)) (grows-append old mid new (flat_map f (take i xs)) (f y) g k)

pub walk-stops : {A : Type 0} (f : A → List Part) (s : Stop) (old mid : Making) (xs : List A) (i : ℕ) (y : A) → i < length xs → y ≡ get_or xs i y
    → Grows old mid (flat_map f (take i xs)) → Stops s mid.totals (f y) → Stops s old.totals (flat_map f xs)
walk-stops f s old mid xs i y h is g k =
    subst (Stops s old.totals)
    (ap (λ z. z ++ flat_map f (drop (i + 1) xs)) (sym (last-more f xs i y h is))
    ∙ (sym (flat_map-append f (take (i + 1) xs) (drop (i + 1) xs)) ∙ ap (flat_map f) (take-append-drop (i + 1) xs)))
    (stops-left s old.totals (flat_map f (take i xs) ++ f y) (flat_map f (drop (i + 1) xs)) (stops-right s old mid (flat_map f (take i xs)) (f y) g k))

-- a fault that is handed on
pub handed-on : {A : Type 0} {P : Stop → Type 0} (r : Result A Stop) (x : Stop) (old new : Making) (parts : List Part)
    → IsErr r × IsErrAnd r P → ((e : Stop) → P e → e ≡ x) → Stops x old.totals parts → Adds old new parts r
handed-on (Ok a) x old new parts h k s = absurd h.1
handed-on (Err e) x old new parts h k s = subst (λ z. Stops z old.totals parts) (sym (k e h.1)) s

-- ---- of all parts some are done, and these are left

pub record Done (old now : Making) (all left : List Part) : Type 0 where
  pub done : List Part
  pub grows : Grows old now done
  pub is : all ≡ done ++ left

pub done-start : (m : Making) (all : List Part) → Done m m all all
done-start m all = record { done = []; grows = grows-nothing m; is = refl }

pub done-left : (old now : Making) (all a b : List Part) → Done old now all a → a ≡ b → Done old now all b
done-left old now all a b d h = record { done = d.done; grows = d.grows; is = d.is ∙ ap (λ z. d.done ++ z) h }

pub done-more : (old mid new : Making) (all part left : List Part) → Done old mid all (part ++ left) → Grows mid new part → Done old new all left
done-more old mid new all part left d g = record {
  done = d.done ++ part;
  grows = grows-append old mid new d.done part d.grows g;
  is = d.is ∙ sym (append_assoc d.done part left);
}

pub done-stops : (s : Stop) (old mid : Making) (all part left : List Part) → Done old mid all (part ++ left) → Stops s mid.totals part → Stops s old.totals all
done-stops s old mid all part left d h =
    subst (Stops s old.totals) (append_assoc d.done part left ∙ sym d.is)
    (stops-left s old.totals (d.done ++ part) left (stops-right s old mid d.done part d.grows h))

pub done-all : (old new : Making) (all : List Part) → Done old new all [] → Grows old new all
done-all old new all d = subst (Grows old new) (sym (d.is ∙ sym (keeps-nothing d.done))) d.grows

pub done-last : {A : Type 0} (old mid new : Making) (all part : List Part) (r : Result A Stop) → Done old mid all part → Adds mid new part r → Adds old new all r
done-last old mid new all part (Ok a) d g =
    done-all old new all (done-more old mid new all part [] (done-left old mid all part (part ++ []) d (keeps-nothing part)) g)
done-last old mid new all part (Err s) d h = done-stops s old mid all part [] (done-left old mid all part (part ++ []) d (keeps-nothing part)) h

-- ---- all that is made

pub made-all : (old new : Making) (parts : List Part) → totals_of old.totals ≡ o.nothing_yet → old.signals.items ≡ [] → old.funcs.items ≡ [] → old.processes.items ≡ []
    → Grows old new parts → IsMade parts new
made-all old new parts t s f p g = record {
  judged = ap (λ n. o.judged n parts) (sym t) ∙ g.judged;
  signals = g.signals ∙ ap (λ z. z ++ flat_map (λ a. a.signals) parts) s;
  funcs = g.funcs ∙ ap (λ z. map func_of z ++ flat_map (λ a. a.funcs) parts) f;
  processes = g.processes ∙ ap (λ z. map process_of z ++ flat_map (λ a. a.processes) parts) p;
}

pub made-stops : (s : Stop) (t : Totals) (parts : List Part) → totals_of t ≡ o.nothing_yet → Stops s t parts → Makes parts (Err s)
made-stops (Construct at n) t parts e h = ap (λ n. o.judged n parts) (sym e) ∙ h
made-stops (Limit at n) t parts e h = ap (λ n. o.judged n parts) (sym e) ∙ h
made-stops Memory t parts e h = tt

pub made-handed : {P : Stop → Type 0} (r : Result Making Stop) (x : Stop) (parts : List Part)
    → IsErr r × IsErrAnd r P → ((e : Stop) → P e → e ≡ x) → Makes parts (Err x) → Makes parts r
made-handed (Ok a) x parts h k s = absurd h.1
made-handed (Err e) x parts h k s = subst (λ z. Makes parts (Err z)) (sym (k e h.1)) s
