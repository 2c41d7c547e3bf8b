-- Words that fit ports, rows of snapshots and values; and open files.
use Rattle.std.proofs.Common.{◌≡◌, ◌⊎◌, inl, inr, ℕ, zero, suc, ◌+◌, ◌^◌, ◌<◌, ◌≤◌, Bool, true, false, cond, List, [], ◌∷◌, ◌++◌, length, map, take, drop, Option, Some, refl, sym, ap, ◌∙◌, subst, arith}
use Rattle.std.specs.Prelude.{if◌then◌else◌, replicate, filter, is_some, option_map, All}
use Rattle.std.specs.List.{AllByRecursion, AllZip, find}
use Rattle.std.specs.Str.{bytes_eq}
use Rattle.std.proofs.lemmas.List.{length-replicate}
use Rattle.std.proofs.lemmas.List.Elements.{All-nil, All-cons, All-head, All-tail, All-replicate}
use Rattle.std.proofs.lemmas.Nat.{pow_pos}
use Rattle.std.proofs.lemmas.Slice.Eq.{bytes_eq-Decides}
use Rattle.vl_design.specs.vl_base.specs.declared.files.File.{File}
use Rattle.vl_design.specs.vl_base.specs.declared.files.OpenFile.{OpenFile}
use Rattle.vl_design.specs.vl_base.specs.Files.{contents}
use Rattle.vl_design.specs.Functions.{zeros}
use Rattle.vl_design.specs.Laws.{IsFine, InRange, AreOpenFrom}
use Rattle.vl_design.specs.Snapshots.{is_kept, kept_words, kept_values, snap_words}
use Rattle.vl_design.specs.Snapshots as run
use Rattle.vl_design.specs.Syntax.{Row, Flat}
use Rattle.vl_design.specs.Value.{words_of}
use Rattle.vl_design.proofs.Fine.{zeros_fine}
use Rattle.reg_ports.specs.Ports.{word_count, widths}
use Rattle.reg_ports.specs.Refusals.{AreFit}
use Rattle.snap_form.specs.declared.snapshot.SnapRow.{SnapRow}
use Rattle.snap_form.specs.Spelling as snap
use Rattle.ten_plan.specs.Written.{row_of, rows_of}
use Rattle.ten_core.specs.Holding.{IsSized, CanBeHeld}
use Rattle.ten_core.specs.Ports.{port_of, ports_from, snap_row}
use Rattle.ten_core.proofs.Listing.{count-is, snap-count, OneWord, rows-all}
use Rattle.vl_design.proofs.Fine.{less_fine as fine-less}
use Rattle.vl_design.specs.vl_base.proofs.Shared.{found_by as found-by}

-- ---- two ways to say that words fit

abbrev Fits : ℕ → ℕ → Type 0
Fits w v = v < 2 ^ w

zip-words : (ws vs : List ℕ) → snap.AreWords ws vs → AllZip Fits ws vs
zip-words [] [] h = tt
zip-words [] (v ∷ vs) h = absurd h
zip-words (w ∷ ws) [] h = absurd h
zip-words (w ∷ ws) (v ∷ vs) h = (h.0, zip-words ws vs h.1)

are-words : (ws vs : List ℕ) → AllZip Fits ws vs → snap.AreWords ws vs
are-words [] [] h = tt
are-words [] (v ∷ vs) h = absurd h
are-words (w ∷ ws) [] h = absurd h
are-words (w ∷ ws) (v ∷ vs) h = (h.0, are-words ws vs h.1)

-- rows of snapshots, by whether the first signal is kept
abbrev pub run_row : Row → run.SnapRow
run_row x = record { name = x.name; width = x.width; words = snap_words x.kind x.words }

abbrev pub rows_of_by : Bool → Row → List Row → List SnapRow
rows_of_by b r rs = map row_of (map run_row (cond b (r ∷ filter (λ (x : Row). is_kept x.kind) rs) (filter (λ (x : Row). is_kept x.kind) rs)))

-- the widths of ports are those of the rows
pub same-widths : (k : ℕ) (rows : List Row) → AllByRecursion OneWord rows → AllByRecursion IsSized rows → widths (ports_from k rows) ≡ snap.widths (rows_of rows)
same-widths k [] one sized = refl
same-widths k (r ∷ rs) one sized = at (same-widths (k + 1) rs one.1 sized.1) (is_kept r.kind) refl
  where
    at : widths (ports_from (k + 1) rs) ≡ snap.widths (rows_of rs) → (b : Bool) → is_kept r.kind ≡ b → widths (if b then port_of k r ∷ ports_from (k + 1) rs else ports_from (k + 1) rs) ≡ snap.widths (rows_of_by b r rs)
    at others true e =
        ap (λ (n : ℕ). replicate n r.width ++ widths (ports_from (k + 1) rs)) (count-is k r e one.0 ∙ sym (snap-count r e one.0 sized.0.some))
        ∙ ap (λ (xs : List ℕ). replicate (snap.word_count (snap_row r)) r.width ++ xs) others
    at others false e = others

-- ---- words in front of others

split-words : (c w : ℕ) (xs ws : List ℕ) → AllZip Fits (replicate c w ++ xs) ws → (length (take c ws) ≡ c) × All (λ v. v < 2 ^ w) (take c ws) × AllZip Fits xs (drop c ws)
split-words zero w xs ws h = (refl, All-nil (λ v. v < 2 ^ w), h)
split-words (suc c) w xs [] h = absurd h
split-words (suc c) w xs (v ∷ ws) h =
    let k = split-words c w xs ws h.1 in
    (ap suc k.0, All-cons (λ v. v < 2 ^ w) v (take c ws) h.0 k.1, k.2)

join-words : (c w : ℕ) (vs xs ws : List ℕ) → length vs ≡ c → All (λ v. v < 2 ^ w) vs → AllZip Fits xs ws → AllZip Fits (replicate c w ++ xs) (vs ++ ws)
join-words zero w [] xs ws e fits h = h
join-words zero w (v ∷ vs) xs ws e fits h = absurd (omega arith)
join-words (suc c) w [] xs ws e fits h = absurd (omega arith)
join-words (suc c) w (v ∷ vs) xs ws e fits h =
    (All-head (λ x. x < 2 ^ w) v vs fits, join-words c w vs xs ws (omega arith) (All-tail (λ x. x < 2 ^ w) v vs fits) h)

-- ---- values

-- one signal more
fine-more : (r : Row) (rs : List Row) (ws : List ℕ) (wss : List (List ℕ)) → All (λ v. v < 2 ^ r.width) ws → length ws ≡ r.words → IsFine rs wss → IsFine (r ∷ rs) (ws ∷ wss)
fine-more r rs ws wss fits long f = record { range = range; shape = record { many = ap suc f.shape.many; words = words } }
  where
    range : InRange (r ∷ rs) (ws ∷ wss)
    range zero = fits
    range (suc k) = f.range k

    words : (k : ℕ) → length (words_of (ws ∷ wss) k) ≡ length (words_of (zeros (r ∷ rs)) k)
    words zero = long ∙ sym (length-replicate r.words 0)
    words (suc k) = f.shape.words k

-- the values of words that fit
pub kept-fine : (k : ℕ) (rows : List Row) (words : List ℕ) → AllByRecursion OneWord rows → AreFit (ports_from k rows) words → IsFine rows (kept_values rows words)
kept-fine k [] words one h = zeros_fine []
kept-fine k (r ∷ rs) words one h = at (λ ws f. kept-fine (k + 1) rs ws one.1 f) (is_kept r.kind) refl h
  where
    at : ((ws : List ℕ) → AreFit (ports_from (k + 1) rs) ws → IsFine rs (kept_values rs ws)) → (b : Bool) → is_kept r.kind ≡ b → AreFit (if b then port_of k r ∷ ports_from (k + 1) rs else ports_from (k + 1) rs) words →
        IsFine (r ∷ rs) (if b then take r.words words ∷ kept_values rs (drop r.words words) else replicate r.words 0 ∷ kept_values rs words)
    at others true e own =
        let same = subst (λ (n : ℕ). AllZip Fits (replicate n r.width ++ widths (ports_from (k + 1) rs)) words) (count-is k r e one.0) own in
        let parts = split-words r.words r.width (widths (ports_from (k + 1) rs)) words same in
        fine-more r rs (take r.words words) (kept_values rs (drop r.words words)) parts.1 parts.0 (others (drop r.words words) parts.2)
    at others false e own =
        fine-more r rs (replicate r.words 0) (kept_values rs words) (All-replicate (λ v. v < 2 ^ r.width) r.words 0 (pow_pos r.width)) (length-replicate r.words 0) (others words own)

-- the words of values
pub words-fit : (k : ℕ) (rows : List Row) (values : List (List ℕ)) → AllByRecursion OneWord rows → IsFine rows values → AreFit (ports_from k rows) (kept_words rows values)
words-fit k [] values one f = tt
words-fit k (r ∷ rs) [] one f = let m = f.shape.many in absurd (omega arith)
words-fit k (r ∷ rs) (ws ∷ wss) one f = at (words-fit (k + 1) rs wss one.1 (fine-less r rs ws wss f)) (is_kept r.kind) refl
  where
    long : length ws ≡ r.words
    long = f.shape.words 0 ∙ length-replicate r.words 0

    at : AreFit (ports_from (k + 1) rs) (kept_words rs wss) → (b : Bool) → is_kept r.kind ≡ b → AreFit (if b then port_of k r ∷ ports_from (k + 1) rs else ports_from (k + 1) rs) ((if b then ws else []) ++ kept_words rs wss)
    at others true e = join-words (word_count (port_of k r)) r.width ws (widths (ports_from (k + 1) rs)) (kept_words rs wss) (long ∙ sym (count-is k r e one.0)) (f.range 0) others
    at others false e = others

-- ---- designs

module _ (d : Flat) (can : CanBeHeld d) where
  one-words : AllByRecursion OneWord d.rows
  one-words = rows-all OneWord d.rows (λ k r e h. can.words.one k r e h)

  pub read-fits : (words : List ℕ) → snap.AreWords (snap.widths (rows_of d.rows)) words → AreFit (ports_from 0 d.rows) words
  read-fits words h = subst (λ (ws : List ℕ). AllZip Fits ws words) (sym (same-widths 0 d.rows one-words can.signals)) (zip-words (snap.widths (rows_of d.rows)) words h)

  pub fit-fine : (words : List ℕ) → AreFit (ports_from 0 d.rows) words → IsFine d.rows (kept_values d.rows words)
  fit-fine words h = kept-fine 0 d.rows words one-words h

  pub written-words : (values : List (List ℕ)) → IsFine d.rows values → snap.AreWords (snap.widths (rows_of d.rows)) (kept_words d.rows values)
  written-words values f =
      are-words (snap.widths (rows_of d.rows)) (kept_words d.rows values)
      (subst (λ (ws : List ℕ). AllZip Fits ws (kept_words d.rows values)) (same-widths 0 d.rows one-words can.signals) (words-fit 0 d.rows values one-words f))

-- ---- open files

-- a name that a set has is one of its names
short-name : (name : List ℕ) (set : List File) → AllByRecursion (λ f. length f.name ≤ 255) set → is_some (contents set name) ≡ true → length name ≤ 255
short-name name [] h e = let z : ⊥ = cc in absurd z
short-name name (f ∷ fs) h e =
    elim (found-by (bytes_eq f.name name) f (find (λ g. bytes_eq g.name name) fs) e) [
      | inl q ↦ subst (λ (n : List ℕ). length n ≤ 255) ((bytes_eq-Decides f.name name).0 q) h.0
      | inr q ↦ short-name name fs h.1 q
    ]

pub written-files : (set : List File) (least : ℕ) (fs : List OpenFile) → AllByRecursion (λ f. length f.name ≤ 255) set → AreOpenFrom set least fs → AllByRecursion snap.IsOpen fs × snap.Ascend least fs
written-files set least [] h k = (tt, tt)
written-files set least (f ∷ fs) h k =
    let others = written-files set (f.slot + 1) fs h k.2 in
    let small = k.1.small in
    ((record { slot = omega (arith, small); name = short-name f.name set h k.1.there }, others.0), (k.0, others.1))

pub read-files : (set : List File) (least : ℕ) (fs : List OpenFile) → AllByRecursion (snap.IsOpenIn set) fs → snap.Ascend least fs → AreOpenFrom set least fs
read-files set least [] h k = tt
read-files set least (f ∷ fs) h k =
    let slot = h.0.slot in
    (k.0, record { small = omega (arith, slot); there = h.0.there; within = h.0.within }, read-files set (f.slot + 1) fs h.1 k.1)
