-- How a script's tenants are read, one after another.
use Rattle.std.proofs.Common.{◌≡◌, ◌≤◌, ◌<◌, ℕ, ◌+◌, ◌-◌, List, [], ◌∷◌, ◌++◌, take, drop, length, refl, sym, ap, ◌∙◌, subst, arith, append_assoc}
use Rattle.std.specs.Prelude.{Option, Some, None, IfSome, get_or, min, flat_map, unwrap_or}
use Rattle.std.proofs.lemmas.Grind.{flat_map-append}
use Rattle.std.proofs.lemmas.List.{append-nil, take_more, take_all, length_push}
use Rattle.std.proofs.lemmas.List.Sums.{sum_by-append}
use Rattle.std.proofs.lemmas.Option.{slice_get-get_or}
use Rattle.host_form.specs.fab_io.specs.declared.store.ReadError.{ReadError}
use Rattle.host_form.specs.fab_io.specs.Outside.{Files}
use Rattle.host_form.specs.host_text.specs.declared.script.FileLine.{FileLine}
use Rattle.host_form.specs.host_text.specs.declared.script.TenantLine.{TenantLine}
use Rattle.host_form.specs.host_text.specs.declared.script.Script.{Script}
use Rattle.host_files.specs.declared.loaded.Loaded.{Loaded}
use Rattle.host_files.specs.Reading.{Counts, counts_of, IsLoaded, AreLoaded, IsCause, IsAsked, IsMissed, IsAvailable, bytes_of, most_file, most_files, files_of}
use Rattle.host_files.specs.Reading as asked
use Rattle.host_files.specs.Steps.{IsFileMissed, IsPartMissed, IsTenantWithin}
use Rattle.host_files.specs.Steps as part
use Rattle.host_files.proofs.Lists.{cut-at}
use Rattle.host_files.proofs.Causes.{part-before}
use Rattle.host_files.proofs.Within.{AreTenantsWithin, no-tenants, tenant-behind, all-within}

abbrev files-in : List TenantLine → List FileLine
files-in ts = flat_map (λ t. t.files) ts

loaded-more : (told : Files) (ls : List TenantLine) (ts : List Loaded) (l : TenantLine) (t : Loaded) → AreLoaded told ls ts → IsLoaded told l t → AreLoaded told (ls ++ l ∷ []) (ts ++ t ∷ [])
loaded-more told [] [] l t h here = (here, tt)
loaded-more told [] (x ∷ xs) l t h here = absurd h
loaded-more told (k ∷ ks) [] l t h here = absurd h
loaded-more told (k ∷ ks) (x ∷ xs) l t h here = (h.0, loaded-more told ks xs l t h.1 here)

-- the first n tenants are read, and a room is left for the files of the others
pub record AreLoadedTo (told : Option Files) (lines : List TenantLine) (n : ℕ) (all : List Loaded) (room : ℕ) : Type 0 where
  pub count : length all ≡ n
  pub loaded : IfSome told (λ files. AreLoaded files (take n lines) all)
  pub left : IfSome told (λ files. room ≡ most_files - bytes_of files (files-in (take n lines)))
  pub within : IfSome told (λ files. AreTenantsWithin files (take n lines))

pub none-loaded : (told : Option Files) (lines : List TenantLine) → AreLoadedTo told lines 0 [] most_files
none-loaded None lines = record { count = refl; loaded = tt; left = tt; within = tt }
none-loaded (Some files) lines = record { count = refl; loaded = tt; left = refl; within = no-tenants files }

next-loaded : (told : Option Files) (lines : List TenantLine) (n : ℕ) (d : TenantLine) (all : List Loaded) (t : Loaded) → n < length lines
    → IfSome told (λ files. AreLoaded files (take n lines) all) → IfSome told (λ files. IsLoaded files (get_or lines n d) t) → IfSome told (λ files. AreLoaded files (take (n + 1) lines) (all ++ t ∷ []))
next-loaded None lines n d all t below h here = tt
next-loaded (Some files) lines n d all t below h here = rw (take_more lines n d below) (loaded-more files (take n lines) all (get_or lines n d) t h here)

files-more : (lines : List TenantLine) (n : ℕ) (d : TenantLine) → n < length lines → files-in (take (n + 1) lines) ≡ files-in (take n lines) ++ (get_or lines n d).files
files-more lines n d below =
    ap files-in (take_more lines n d below) ∙ flat_map-append (λ t. t.files) (take n lines) (get_or lines n d ∷ [])
    ∙ ap (λ (fs : List FileLine). files-in (take n lines) ++ fs) (append-nil (get_or lines n d).files)

next-room : (told : Option Files) (lines : List TenantLine) (n : ℕ) (d : TenantLine) (old new : ℕ) → n < length lines
    → IfSome told (λ files. old ≡ most_files - bytes_of files (files-in (take n lines))) → IfSome told (λ files. new ≡ old - bytes_of files (get_or lines n d).files)
    → IfSome told (λ files. new ≡ most_files - bytes_of files (files-in (take (n + 1) lines)))
next-room None lines n d old new below h e = tt
next-room (Some files) lines n d old new below h e =
    let sum = sum_by-append (λ f. length (unwrap_or (files f.path) [])) (files-in (take n lines)) (get_or lines n d).files in
    rw (files-more lines n d below) (omega (arith, sum, h, e))

next-within : (told : Option Files) (lines : List TenantLine) (n : ℕ) (d : TenantLine) (room : ℕ) → n < length lines
    → IfSome told (λ files. room ≡ most_files - bytes_of files (files-in (take n lines))) → IfSome told (λ files. AreTenantsWithin files (take n lines))
    → IfSome told (λ files. IsTenantWithin files room (get_or lines n d)) → IfSome told (λ files. AreTenantsWithin files (take (n + 1) lines))
next-within None lines n d room below left r here = tt
next-within (Some files) lines n d room below left r here =
    subst (λ (ts : List TenantLine). AreTenantsWithin files ts) (sym (take_more lines n d below)) (tenant-behind files (take n lines) (get_or lines n d) room left r here)

next : (told : Option Files) (lines : List TenantLine) (n : ℕ) (d : TenantLine) (all : List Loaded) (t : Loaded) (old new : ℕ) → n < length lines → AreLoadedTo told lines n all old
    → IfSome told (λ files. IsLoaded files (get_or lines n d) t) → IfSome told (λ files. IsTenantWithin files old (get_or lines n d))
    → IfSome told (λ files. new ≡ old - bytes_of files (get_or lines n d).files) → AreLoadedTo told lines (n + 1) (all ++ t ∷ []) new
next told lines n d all t old new below r here limits room = record {
  count = let e = length_push all t in let c = r.count in omega (arith, e, c);
  loaded = next-loaded told lines n d all t below r.loaded here;
  left = next-room told lines n d old new below r.left room;
  within = next-within told lines n d old below r.left r.within limits;
}

pub all-available : (told : Option Files) (s : Script) (lines : List TenantLine) (n : ℕ) (all : List Loaded) (room : ℕ) → lines ≡ s.tenants → length lines ≤ n → AreLoadedTo told lines n all room
    → IfSome told (λ files. IsAvailable files s)
all-available None s lines n all room is h r = tt
all-available (Some files) s lines n all room is h r = all-within files s (subst (λ (ts : List TenantLine). AreTenantsWithin files ts) (take_all n lines h ∙ is) r.within)

-- ---- what is missed

-- the files of a script, cut at one of a tenant's
cut-files : (lines : List TenantLine) (n : ℕ) (d : TenantLine) (before after : List FileLine) (f : FileLine) → n < length lines → (get_or lines n d).files ≡ before ++ f ∷ after
    → files-in lines ≡ (files-in (take n lines) ++ before) ++ f ∷ (after ++ files-in (drop (n + 1) lines))
cut-files lines n d before after f below e =
    let front = files-in (take n lines) in
    let rest = files-in (drop (n + 1) lines) in
    ap files-in (cut-at lines n d below) ∙ flat_map-append (λ t. t.files) (take n lines) (get_or lines n d ∷ drop (n + 1) lines)
    ∙ ap (λ (fs : List FileLine). front ++ (fs ++ rest)) e ∙ ap (λ (fs : List FileLine). front ++ fs) (append_assoc before (f ∷ after) rest)
    ∙ sym (append_assoc front before (f ∷ (after ++ rest)))

limit-in : (told : Option Files) (prior before : List FileLine) (room most : ℕ) → IfSome told (λ files. room ≡ most_files - bytes_of files prior)
    → IfSome told (λ files. most ≡ min most_file (room - bytes_of files before)) → IfSome told (λ files. most ≡ min most_file (most_files - bytes_of files (prior ++ before)))
limit-in None prior before room most h e = tt
limit-in (Some files) prior before room most h e =
    let sum = sum_by-append (λ f. length (unwrap_or (files f.path) [])) prior before in
    let left : room - bytes_of files before ≡ most_files - bytes_of files (prior ++ before) = omega (arith, sum, h) in
    e ∙ ap (min most_file) left

missed-at : (told : Option Files) (old new : Counts) (s : Script) (n : ℕ) (d : TenantLine) (all : List Loaded) (room : ℕ) (path : List ℕ) (why : ReadError) → n < length s.tenants
    → AreLoadedTo told s.tenants n all room → IsPartMissed told old new room (get_or s.tenants n d) path why → IsMissed told old new s path why
missed-at told old new s n d all room path why below r (part.source e c) = (_, asked.source n _ (slice_get-get_or s.tenants n d below) e refl, c)
missed-at told old new s n d all room path why below r (part.file m) =
    (m.most, asked.file _ _ _ (cut-files s.tenants n d m.before m.after m.file below m.is) m.asked (limit-in told (files-in (take n s.tenants)) m.before room m.most r.left m.limit), m.cause)
missed-at told old new s n d all room path why below r (part.snapshot e c) = (_, asked.snapshot n _ (slice_get-get_or s.tenants n d below) e refl, c)

-- ---- what a turn of the loop knows: its line x

pub next-read : (told told' : Option Files) (lines : List TenantLine) (n : ℕ) (x : TenantLine) (all : List Loaded) (t : Loaded) (old new : ℕ) → n < length lines → x ≡ get_or lines n x
    → told' ≡ told → AreLoadedTo told lines n all old → IfSome told' (λ files. IsLoaded files x t) → IfSome told' (λ files. IsTenantWithin files old x)
    → IfSome told' (λ files. new ≡ old - bytes_of files x.files) → AreLoadedTo told lines (n + 1) (all ++ t ∷ []) new
next-read told told' lines n x all t old new below is same r here limits room =
    let l = subst (λ (o : Option Files). IfSome o (λ files. IsTenantWithin files old x)) same limits in
    let a = subst (λ (o : Option Files). IfSome o (λ files. IsLoaded files x t)) same here in
    let b = subst (λ (o : Option Files). IfSome o (λ files. new ≡ old - bytes_of files x.files)) same room in
    next told lines n x all t old new below r (subst (λ (y : TenantLine). IfSome told (λ files. IsLoaded files y t)) is a)
    (subst (λ (y : TenantLine). IfSome told (λ files. IsTenantWithin files old y)) is l)
    (subst (λ (y : TenantLine). IfSome told (λ files. new ≡ old - bytes_of files y.files)) is b)

pub next-missed : (told told' : Option Files) (f f' a a' : ℕ) (new : Counts) (s : Script) (lines : List TenantLine) (n : ℕ) (x : TenantLine) (all : List Loaded) (room : ℕ) (path : List ℕ) (why : ReadError)
    → lines ≡ s.tenants → n < length lines → x ≡ get_or lines n x → told' ≡ told → f ≤ f' → a ≤ a' → AreLoadedTo told lines n all room
    → IsPartMissed told' (counts_of f' a') new room x path why → IsMissed told (counts_of f a) new s path why
next-missed told told' f f' a a' new s lines n x all room path why all-of below is same g h r m =
    let p = part-before told told' f f' a a' new room x path why same g h m in
    let q = subst (λ (y : TenantLine). IsPartMissed told (counts_of f a) new room y path why) is p in
    missed-at told (counts_of f a) new s n x all room path why (subst (λ (ls : List TenantLine). n < length ls) all-of below)
    (subst (λ (ls : List TenantLine). AreLoadedTo told ls n all room) all-of r)
    (subst (λ (ls : List TenantLine). IsPartMissed told (counts_of f a) new room (get_or ls n x) path why) all-of q)
