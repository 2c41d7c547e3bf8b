-- What reads up to a limit give of the bytes that a reader has left.
use Rattle.std.proofs.Common.{◌≡◌, ℕ, ◌<◌, ◌≤◌, List, [], ◌++◌, length, take, take_all, append-nil, Option, Some, None, Result, Ok, IfSome, sym, ap, subst, ◌∙◌}
use Rattle.std.proofs.lemmas.List.{take-append-le}
use Rattle.std.proofs.KnownBytes.{Consumes-trans}
use Rattle.std.specs.Io.KnownBytes.{Consumes, ReadConsumes}

-- as many bytes as the limit are the known bytes up to it
pub read_full : (old last : Option (List ℕ)) (bytes : List ℕ) (limit : ℕ) →
    length bytes ≤ limit → limit ≤ length bytes → Consumes old last bytes → IfSome old (λ all. bytes ≡ take limit all)
read_full None last bytes limit within full came = tt
read_full (Some all) None bytes limit within full came = absurd came
read_full (Some all) (Some rest) bytes limit within full came =
    sym (ap (take limit) came ∙ take-append-le limit bytes rest full ∙ take_all limit bytes within)

-- the bytes that came before the end are the known bytes up to the limit
pub read_ended : {E : Type 0} (old mid last : Option (List ℕ)) (bytes part : List ℕ) (limit n : ℕ) (r : Result ℕ E) →
    length bytes ≤ limit → Consumes old mid bytes → ReadConsumes mid last r part → r ≡ Ok n → n ≡ 0 → 0 < length part →
    IfSome old (λ all. bytes ≡ take limit all)
read_ended None mid last bytes part limit n r within came read is none room = tt
read_ended (Some all) None last bytes part limit n r within came read is none room = absurd came
read_ended (Some all) (Some rest) None bytes part limit n r within came read is none room =
    absurd (subst (λ r. ReadConsumes (Some rest) None r part) is read).0
read_ended (Some all) (Some rest) (Some left) bytes part limit n r within came read is none room =
    let got = subst (λ r. ReadConsumes (Some rest) (Some left) r part) is read in
    let nothing : rest ≡ [] = got.0 ∙ ap (λ k. take k part ++ left) none ∙ got.1 none room in
    let all_came : all ≡ bytes = came ∙ ap (λ l. bytes ++ l) nothing ∙ append-nil bytes in
    sym (ap (take limit) all_came ∙ take_all limit bytes within)

-- what one more read gave comes after the bytes that came before
pub read_more : {E : Type 0} (old mid last : Option (List ℕ)) (bytes part : List ℕ) (n : ℕ) (r : Result ℕ E) →
    Consumes old mid bytes → ReadConsumes mid last r part → r ≡ Ok n → Consumes old last (bytes ++ take n part)
read_more old mid last bytes part n r came read is =
    Consumes-trans old mid last bytes (take n part) came (subst (λ r. ReadConsumes mid last r part) is read).0
