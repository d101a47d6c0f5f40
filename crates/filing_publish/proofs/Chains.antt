-- A chain counts its versions.
use Rattle.std.proofs.Common.{◌≡◌, ◌∙◌, ap, sym, subst, refl, arith, ℕ, ◌+◌, List, [], ◌∷◌, ◌++◌, length, length-append}
use Rattle.filing_model.specs.Sessions.Repository.{Repository, nothing}
use Rattle.filing_model.specs.Histories.Versions.{Follows, FollowsAll, IsChain}
use Rattle.filing_publish.specs.Lists.{EndsWith, Listed, IsEdition, IsLastCount}

-- the last of some that follow one another
followed : (c : Repository) (cs before : List Repository) (last : Repository) → FollowsAll c cs → c ∷ cs ≡ before ++ last ∷ [] → length cs + c.count ≡ last.count
followed c [] [] last chain is =
    let same : c ≡ last = cc is in
    let counts : c.count ≡ last.count = ap (λ (r : Repository). r.count) same in
    omega (arith, counts)
followed c [] (b ∷ before) last chain is = absurd (omega (arith, ap length is, length-append before (last ∷ [])))
followed c (d ∷ ds) [] last chain is = absurd (cc is)
followed c (d ∷ ds) (b ∷ before) last chain is =
    let rest = followed d ds before last chain.2 (cc is) in
    omega (arith, rest, chain.0.count)

counted_chain : (versions : List Repository) (last : Repository) → IsChain versions → EndsWith versions last → last.count + 1 ≡ length versions
counted_chain [] last chain newest = absurd chain
counted_chain (c ∷ cs) last chain newest = omega (arith, followed c cs newest.0 last chain.1 newest.1, ap (λ (r : Repository). r.count) chain.0)

pub counted : (e : Listed) (last : Repository) → IsEdition e last → last.count + 1 ≡ length e.versions
counted e last is = counted_chain e.versions last is.chain is.newest

-- the number of an edition's version, told of its list
pub last_count : (e f : Listed) (last : Repository) (n : ℕ) → IsEdition e last → e ≡ f → n ≡ last.count → IsLastCount f.versions n
last_count e f last n is same counts = record {
  last = last;
  newest = subst (λ (l : Listed). EndsWith l.versions last) same is.newest;
  number_is = counts;
}

pub chained : (e f : Listed) (last : Repository) → IsEdition e last → e ≡ f → IsChain f.versions
chained e f last is same = subst (λ (l : Listed). IsChain l.versions) same is.chain

-- the number of a version that is added is how many there were
pub added : (versions : List Repository) (next : Repository) → IsChain (versions ++ next ∷ []) → length versions ≡ next.count
added versions next chain =
    let all = counted_chain (versions ++ next ∷ []) next chain (versions, refl) in
    omega (arith, all, length-append versions (next ∷ []))

-- the list of the empty repository alone
pub begun : (e : Listed) (last : Repository) → e.versions ≡ nothing ∷ [] → last ≡ nothing → IsEdition e last
begun e last begins is = record {
  chain = subst IsChain (sym begins) (refl, tt);
  newest = ([], begins ∙ ap (λ (r : Repository). r ∷ []) (sym is));
}
