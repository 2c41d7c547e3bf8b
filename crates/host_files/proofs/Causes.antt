-- A cause that counts from later on is one that counts from before; and the reads that failed, one call after another.
use Rattle.std.proofs.Common.{◌≡◌, ◌≤◌, ◌∙◌, ℕ, List, ◌++◌, Result, Ok, Err, append-nil, inl, inr, sym, ap, subst}
use Rattle.std.specs.Prelude.{Option}
use Rattle.host_form.specs.fab_io.specs.declared.store.ReadError.{ReadError}
use Rattle.host_form.specs.fab_io.specs.declared.store.ReadError.TheVariants as read
use Rattle.host_form.specs.fab_io.specs.Outside.{Files, Miss}
use Rattle.host_form.specs.host_text.specs.declared.script.FileLine.{FileLine}
use Rattle.host_form.specs.host_text.specs.declared.script.TenantLine.{TenantLine}
use Rattle.host_files.specs.declared.loaded.LoadError.{LoadError}
use Rattle.host_files.specs.Reading.{Counts, counts_of, IsCause, missed_by, missed_in}
use Rattle.host_files.specs.Steps.{IsFileMissed, IsPartMissed}
use Rattle.host_files.specs.Steps as part
use Rattle.host_form.specs.fab_io.proofs.Shared.{risen-before}

before : (told : Option Files) (f f' a a' : ℕ) (new : Counts) (path : List ℕ) (most : ℕ) (why : ReadError) → f ≤ f' → a ≤ a'
    → IsCause told (counts_of f' a') new path most why → IsCause told (counts_of f a) new path most why
before told f f' a a' new path most read.NotThere g h (inl c) = inl c
before told f f' a a' new path most read.NotThere g h (inr c) = inr (risen-before _ _ _ h c)
before told f f' a a' new path most read.TooLong g h (inl c) = inl c
before told f f' a a' new path most read.TooLong g h (inr c) = inr (risen-before _ _ _ h c)
before told f f' a a' new path most read.Failed g h c = risen-before _ _ _ g c
before told f f' a a' new path most read.Memory g h c = c

-- where the same files are told
pub cause-before : (told told' : Option Files) (f f' a a' : ℕ) (new : Counts) (path : List ℕ) (most : ℕ) (why : ReadError) → told' ≡ told → f ≤ f' → a ≤ a'
    → IsCause told' (counts_of f' a') new path most why → IsCause told (counts_of f a) new path most why
cause-before told told' f f' a a' new path most why e g h c =
    before told f f' a a' new path most why g h (subst (λ (x : Option Files). IsCause x (counts_of f' a') new path most why) e c)

pub file-before : (told told' : Option Files) (f f' a a' : ℕ) (new : Counts) (room : ℕ) (lines : List FileLine) (path : List ℕ) (why : ReadError) → told' ≡ told → f ≤ f' → a ≤ a'
    → IsFileMissed told' (counts_of f' a') new room lines path why → IsFileMissed told (counts_of f a) new room lines path why
file-before told told' f f' a a' new room lines path why e g h m =
    let n = subst (λ (x : Option Files). IsFileMissed x (counts_of f' a') new room lines path why) e m in
    record { before = n.before; file = n.file; after = n.after; is = n.is; asked = n.asked; most = n.most; limit = n.limit; cause = before told f f' a a' new path n.most why g h n.cause }

pub part-before : (told told' : Option Files) (f f' a a' : ℕ) (new : Counts) (room : ℕ) (t : TenantLine) (path : List ℕ) (why : ReadError) → told' ≡ told → f ≤ f' → a ≤ a'
    → IsPartMissed told' (counts_of f' a') new room t path why → IsPartMissed told (counts_of f a) new room t path why
part-before told told' f f' a a' new room t path why e g h (part.source is c) = part.source is (cause-before told told' f f' a a' new path _ why e g h c)
part-before told told' f f' a a' new room t path why e g h (part.file m) = part.file (file-before told told' f f' a a' new room t.files path why e g h m)
part-before told told' f f' a a' new room t path why e g h (part.snapshot is c) = part.snapshot is (cause-before told told' f f' a a' new path _ why e g h c)

-- the path that was asked for, and the same limit
pub asked-for : (told : Option Files) (old new : Counts) (asked path : List ℕ) (most limit : ℕ) (why : ReadError) → most ≡ limit
    → (asked ≡ path) × IsCause told old new path most why → IsCause told old new asked limit why
asked-for told old new asked path most limit why e h =
    subst (λ (m : ℕ). IsCause told old new asked m why) e (subst (λ (p : List ℕ). IsCause told old new p most why) (sym h.0) h.1)

-- ---- errors

-- the error that is handed on is the one that came
pub handed : {T U E : Type 0} (r : Result T E) (s : Result U E) (x e : E) → r ≡ Err x → (y : E) × (s ≡ Err y) × (y ≡ x) → s ≡ Err e → r ≡ Err e
handed r s x e came p is = let q = p.1 in let same = p.2 in cc

-- ---- reads that failed

-- where all was read, none did
pub none-noted : {T : Type 0} (old new : List Miss) (r : Result T LoadError) (x : T) → r ≡ Ok x → new ≡ old ++ missed_in r → new ≡ old
none-noted old new r x e h = h ∙ ap (λ (t : Result _ LoadError). old ++ missed_in t) e ∙ append-nil old

-- an error that is handed on tells of the same read
pub noted-handed : {T U : Type 0} (start old new : List Miss) (r : Result T LoadError) (s : Result U LoadError) (x : LoadError) → old ≡ start → new ≡ old ++ missed_in r
    → r ≡ Err x → (y : LoadError) × (s ≡ Err y) × (y ≡ x) → new ≡ start ++ missed_in s
noted-handed start old new r s x same h e p =
    let told : missed_in s ≡ missed_in r = ap missed_in p.1 ∙ ap missed_by p.2 ∙ sym (ap missed_in e) in
    h ∙ ap (λ (ms : List Miss). ms ++ missed_in r) same ∙ ap (λ (ms : List Miss). start ++ ms) (sym told)
