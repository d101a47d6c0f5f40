-- What stands in a repository with a change laid over it. One more put or declared value in the change
-- is that put or value made in what was laid before.
use Rattle.std.proofs.Common.{◌≡◌, ◌∙◌, ap, sym, refl, Bool, true, false, cond, Option, Some, None, option_map, unwrap_or}
use Rattle.std.specs.Option.{option_map_or}
use Rattle.filing_model.specs.Common.Text.{Text, text_eq}
use Rattle.filing_model.specs.Common.TextMap.{get, insert}
use Rattle.filing_model.specs.Oim.Facts.{Fact}
use Rattle.filing_model.specs.Oim.Reports.{Report}
use Rattle.filing_model.specs.Reading.DeclaredValue.{report_declaring}
use Rattle.filing_model.specs.Sessions.Repository.{Repository, report_at, fact_in, with_fact, with_report_at, with_fact_at, declaring_at}
use Rattle.filing_model.specs.Sessions.Changes.{ReportChange, Change, no_change, change_in, change_at, declared_in}
use Rattle.filing_model.specs.Sessions.Changes.{with_change, with_declared, declaring_if, changed, laid_over}
use Rattle.filing_model.specs.declared.duplicates.Allowed.{Allowed}
use Rattle.filing_version.specs.declared.version.Got.{Got}
use Rattle.filing_version.specs.declared.version.Got.TheVariants.{NoReport, Absent, Found}
use Rattle.filing_version.specs.Found.{got_of}
use Rattle.filing_model.proofs.Common.TextMaps.{get-insert}
use Rattle.filing_model.proofs.Common.Texts.{text_same}
use Rattle.filing_laws.proofs.Lists.WithOneFact.{fact_in-with_fact}
use Rattle.filing_laws.proofs.Lists.WithOneValue.{bare, bare-with_fact, bare-declaring_if, names-declaring_if, facts-declaring_if, declaring_twice}
use Rattle.filing_laws.proofs.Updating.LaidOver.{bare-changed, fact_in-changed, reports_same, repositories_same, report_at-laid_over, count-laid_over}

-- ---- what stands there

-- no report; in a report what is put, or else what stood there
abbrev pub seen_over : Option (Option Fact) → Option (Option Fact) → Option (Option Fact)
seen_over put None = None
seen_over put (Some there) = Some (unwrap_or put there)

pub nothing_put : (there : Option (Option Fact)) → seen_over None there ≡ there
nothing_put None = refl
nothing_put (Some fact) = refl

-- where the report is there
pub put_there : (there : Got) → (there ≡ NoReport → ⊥) → (fact : Option Fact) → Some fact ≡ seen_over (Some fact) (got_of there)
put_there NoReport not fact = absurd (not refl)
put_there Absent not fact = refl
put_there (Found old) not fact = refl

module _ (c : Repository) (p : Change) (name : Text) where
  pub fact_laid : (id : Text) → seen_over (change_at p name id) (option_map (λ r. fact_in r id) (report_at c name))
      ≡ option_map (λ r. fact_in r id) (report_at (laid_over p c) name)
  fact_laid id = by (report_at c name) ∙ sym (ap (option_map (λ r. fact_in r id)) (report_at-laid_over p c name))
    where
      by : (o : Option Report) → seen_over (change_at p name id) (option_map (λ r. fact_in r id) o)
          ≡ option_map (λ r. fact_in r id) (option_map (changed (change_in p name)) o)
      by None = refl
      by (Some r) = ap Some (sym (fact_in-changed (change_in p name) r id))

  pub names_laid : option_map (λ r. r.names) (report_at c name) ≡ option_map (λ r. r.names) (report_at (laid_over p c) name)
  names_laid = by (report_at c name) ∙ sym (ap (option_map (λ (r : Report). r.names)) (report_at-laid_over p c name))
    where
      by : (o : Option Report) → option_map (λ r. r.names) o ≡ option_map (λ r. r.names) (option_map (changed (change_in p name)) o)
      by None = refl
      by (Some r) = ap Some (sym (ap (λ (x : Report). x.names) (bare-changed (change_in p name) r) ∙ names-declaring_if (change_in p name).declared (bare r)))

  value_if : (v : Option Allowed) (r : Report) → unwrap_or v r.allowed ≡ (declaring_if v r).allowed
  value_if None r = refl
  value_if (Some value) r = refl

  pub value_laid : option_map (unwrap_or (declared_in p name)) (option_map (λ r. r.allowed) (report_at c name))
      ≡ option_map (λ r. r.allowed) (report_at (laid_over p c) name)
  value_laid = by (report_at c name) ∙ sym (ap (option_map (λ (r : Report). r.allowed)) (report_at-laid_over p c name))
    where
      by : (o : Option Report) → option_map (unwrap_or (declared_in p name)) (option_map (λ r. r.allowed) o)
          ≡ option_map (λ r. r.allowed) (option_map (changed (change_in p name)) o)
      by None = refl
      by (Some r) = ap Some (value_if (declared_in p name) (bare r) ∙ sym (ap (λ (x : Report). x.allowed) (bare-changed (change_in p name) r)))

-- ---- what is pending

-- the same is made of it and of all that is staged
pub made_of_both : (f : Change → Change) (pending : Option Change) (change : Change)
    → unwrap_or (option_map f pending) (f change) ≡ f (unwrap_or pending change)
made_of_both f None change = refl
made_of_both f (Some pending) change = refl

-- ---- one report made another

-- the repository with this made of a report, or the same where it is not there
abbrev made_at : Repository → Text → (Report → Report) → Repository
made_at c name f = option_map_or (λ r. with_report_at c name (f r)) (report_at c name) c

report_at-made_at : (c : Repository) (name : Text) (f : Report → Report) (m : Text)
    → report_at (made_at c name f) m ≡ cond (text_eq m name) (option_map f (report_at c m)) (report_at c m)
report_at-made_at c name f m = by (report_at c name) refl (text_eq m name) refl
  where
    by : (o : Option Report) → report_at c name ≡ o → (b : Bool) → text_eq m name ≡ b
        → report_at (option_map_or (λ r. with_report_at c name (f r)) o c) m ≡ cond b (option_map f (report_at c m)) (report_at c m)
    by None is true same =
        let gone : report_at c m ≡ None = ap (report_at c) (text_same m name same) ∙ is in
        gone ∙ sym (ap (option_map f) gone)
    by None is false other = refl
    by (Some r) is true same =
        get-insert c.reports name (f r) m
        ∙ ap (λ b. cond b (Some (f r)) (report_at c m)) same
        ∙ sym (ap (option_map f) (ap (report_at c) (text_same m name same) ∙ is))
    by (Some r) is false other =
        get-insert c.reports name (f r) m
        ∙ ap (λ b. cond b (Some (f r)) (report_at c m)) other

count-made_at : (c : Repository) (name : Text) (f : Report → Report) → (made_at c name f).count ≡ c.count
count-made_at c name f = by (report_at c name)
  where
    by : (o : Option Report) → (option_map_or (λ r. with_report_at c name (f r)) o c).count ≡ c.count
    by None = refl
    by (Some r) = refl

module _ (c : Repository) (p : Change) (name : Text) where
  -- another change of the report, which makes of it what the old one and this make one after the other
  laid_anew : (new : ReportChange) (f : Report → Report) → ((r : Report) → changed new r ≡ f (changed (change_in p name) r))
      → laid_over (insert p name new) c ≡ made_at (laid_over p c) name f
  laid_anew new f made = repositories_same (laid_over (insert p name new) c) (made_at (laid_over p c) name f)
      (count-laid_over (insert p name new) c ∙ sym (count-made_at (laid_over p c) name f ∙ count-laid_over p c))
      (λ m.
      report_at-laid_over (insert p name new) c m
      ∙ ap (λ o. option_map (changed (unwrap_or o no_change)) (report_at c m)) (get-insert p name new m)
      ∙ by m (text_eq m name) refl
      ∙ ap (λ o. cond (text_eq m name) (option_map f o) o) (sym (report_at-laid_over p c m))
      ∙ sym (report_at-made_at (laid_over p c) name f m))
    where
      both : (o : Option Report) → option_map (changed new) o ≡ option_map f (option_map (changed (change_in p name)) o)
      both None = refl
      both (Some r) = ap Some (made r)

      by : (m : Text) (b : Bool) → text_eq m name ≡ b → option_map (changed (unwrap_or (cond b (Some new) (get p m)) no_change)) (report_at c m)
          ≡ cond b (option_map f (option_map (changed (change_in p m)) (report_at c m))) (option_map (changed (change_in p m)) (report_at c m))
      by m true same = both (report_at c m) ∙ ap (λ n. option_map f (option_map (changed (change_in p n)) (report_at c m))) (sym (text_same m name same))
      by m false other = refl

  -- a fact put, or removed
  pub put_laid : (id : Text) (fact : Option Fact) → laid_over (with_change p name id fact) c ≡ with_fact_at (laid_over p c) name id fact
  put_laid id fact = laid_anew new (λ r. with_fact r id fact) (λ r. reports_same (changed new r) (with_fact (changed old r) id fact)
      (bare-changed new r ∙ sym (bare-with_fact (changed old r) id fact ∙ bare-changed old r))
      (λ q.
      fact_in-changed new r q
      ∙ ap (λ o. unwrap_or o (fact_in r q)) (get-insert old.facts id fact q)
      ∙ by r q (text_eq q id)
      ∙ ap (λ o. cond (text_eq q id) fact o) (sym (fact_in-changed old r q))
      ∙ sym (fact_in-with_fact (changed old r) id fact q)))
    where
      old : ReportChange
      old = change_in p name

      new : ReportChange
      new = record (change_in p name) { facts = insert (change_in p name).facts id fact }

      by : (r : Report) (q : Text) (b : Bool) → unwrap_or (cond b (Some fact) (get (change_in p name).facts q)) (fact_in r q)
          ≡ cond b fact (unwrap_or (get (change_in p name).facts q) (fact_in r q))
      by r q true = refl
      by r q false = refl

  -- a value declared
  pub declared_laid : (value : Allowed) → laid_over (with_declared p name value) c ≡ declaring_at (laid_over p c) name value
  declared_laid value = laid_anew new (λ r. report_declaring r value) (λ r. reports_same (changed new r) (report_declaring (changed old r) value)
      (bare-changed new r
      ∙ sym (bare-declaring_if (Some value) (changed old r)
      ∙ ap (declaring_if (Some value)) (bare-changed old r)
      ∙ declaring_twice old.declared (Some value) (bare r)))
      (λ q. fact_in-changed new r q ∙ sym (facts-declaring_if (Some value) (changed old r) q ∙ fact_in-changed old r q)))
    where
      old : ReportChange
      old = change_in p name

      new : ReportChange
      new = record (change_in p name) { declared = Some value }

-- ---- two changes that are laid over two repositories, and come to one

module _ (v b : Repository) (p c : Change) (same : laid_over p v ≡ laid_over c b) (name : Text) where
  pub put_both : (id : Text) (fact : Option Fact) → laid_over (with_change p name id fact) v ≡ laid_over (with_change c name id fact) b
  put_both id fact = put_laid v p name id fact ∙ ap (λ r. with_fact_at r name id fact) same ∙ sym (put_laid b c name id fact)

  pub declared_both : (value : Allowed) → laid_over (with_declared p name value) v ≡ laid_over (with_declared c name value) b
  declared_both value = declared_laid v p name value ∙ ap (λ r. declaring_at r name value) same ∙ sym (declared_laid b c name value)

pub of_either : {X Y : Type 0} (f : X → Y) (base : Option X) (version : X) → unwrap_or (option_map f base) (f version) ≡ f (unwrap_or base version)
of_either f None version = refl
of_either f (Some base) version = refl
