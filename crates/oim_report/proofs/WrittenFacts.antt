-- The JSON object that stands for a raw fact: what is written of it, and what is read of it.
use Rattle.std.proofs.Common.{◌≡◌, ℤ, pos, negsuc, T, ◌&&◌, Bool, true, false, cond, [], ◌∷◌, ◌++◌, codes, Option}
use Rattle.std.proofs.Common.{Some, None, option_map, Ok, Err, is_lt, refl, sym, ap, ◌∙◌, arith, append_assoc}
use Rattle.std.proofs.Common.{subst, lt-ltb}
use Rattle.std.specs.Prelude.{⊤}
use Rattle.std.specs.Option.{option_and_then, ok_or}
use Rattle.std.specs.Fmt.{signed_decimal}
use Rattle.std.specs.FinMap.Entries.{is_sorted, below_all}
use Rattle.json.specs.Print.{quoted, escape_byte}
use Rattle.serde_json.specs.Data.{Data, null, number, string, object, Members, no_members, member}
use Rattle.serde_json.specs.Find.{get, of_integer, as_i64}
use Rattle.serde_json.specs.Written.{number_text, comma_if, compact_text, members_text}
use Rattle.filing_model.specs.Common.Text.{Text, text_cmp}
use Rattle.filing_model.specs.Common.Try.{◌>>=◌, each, map_err}
use Rattle.filing_model.specs.Reading.JsonText.{json_of, pairs, as_nullable, IsWhole, IsWritable}
use Rattle.filing_model.specs.Oim.Dimensions.{Dims, AreDims, dims_of}
use Rattle.filing_model.specs.Oim.Facts.{RawFact}
use Rattle.filing_model.specs.Reading.Fitted.{AreLinks}
use Rattle.filing_model.specs.Reading.ReadFact.{dim_of, named_dims, decimals_of, links_of, raw_fact_of}
use Rattle.filing_model.specs.Reading.Writing.{listed, member_text, nullable_text, dims_text, decimals_text, links_text, raw_fact_text}
use Rattle.filing_model.specs.declared.faults.Trouble.TheVariants as trouble
use Rattle.filing_model.proofs.Reading.JsonTexts.{whole-IsWritable}
use Rattle.filing_model.proofs.Oim.DimensionSets.{Ok-from_AreDims}
use Rattle.filing_model.proofs.Reading.WrittenValues.{Reads, EachReads, Reads-number, Reads-object, Reads-writable}
use Rattle.serde_json.specs.Read.{max_depth}
use Rattle.oim_report.specs.Nesting.{NestsWithin}
use Rattle.oim_report.specs.ReadableFact.{AreWholeDecimals, IsReadableFact}
use Rattle.oim_report.proofs.ReadBackValues.{read_back}

-- ---- the object

abbrev pub nullable_data : Option Text → Data
nullable_data None = null
nullable_data (Some text) = string text

abbrev pub dims_members : Dims → Members
dims_members [] = no_members
dims_members (d ∷ ds) = member d.0 (nullable_data d.1) (dims_members ds)

abbrev with_links : Option Members → Members → Members
with_links None ms = ms
with_links (Some links) ms = member (codes "links") (object links) ms

abbrev with_decimals : Option ℤ → Members → Members
with_decimals None ms = ms
with_decimals (Some z) ms = member (codes "decimals") (number (of_integer z)) ms

abbrev pub fact_members : Option ℤ → Dims → Option Members → Option Text → Members
fact_members decimals dims links value =
    with_decimals decimals (member (codes "dimensions") (object (dims_members dims))
    (with_links links (member (codes "value") (nullable_data value) no_members)))

abbrev compact_links : Option Members → Option Text
compact_links links = option_map (λ ms. compact_text (object ms)) links

-- the raw fact with the links of these members
abbrev pub raw_with : Option ℤ → Dims → Option Members → Option Text → RawFact
raw_with decimals dims links value = record { dims = dims; value = value; decimals = decimals; links = compact_links links }

-- ---- what is written

nullable_written : (value : Option Text) → compact_text (nullable_data value) ≡ nullable_text value
nullable_written None = refl
nullable_written (Some text) = refl

regrouped : (comma q v rest : Text) → comma ++ (q ++ 58 ∷ (v ++ rest)) ≡ comma ++ ((q ++ 58 ∷ v) ++ rest)
regrouped comma q v rest = ap (λ t. comma ++ t) (sym (append_assoc q (58 ∷ v) rest))

pub dims_listed : (later : Bool) (ds : Dims)
    → members_text later (dims_members ds) ≡ listed later (λ d. member_text d.0 (nullable_text d.1)) ds ++ codes "}"
dims_listed later [] = refl
dims_listed later (d ∷ ds) =
    let rest = listed true (λ d. member_text d.0 (nullable_text d.1)) ds in
    (λ i. comma_if later ++ (quoted d.0 ++ 58 ∷ (nullable_written d.1 i ++ dims_listed true ds i)))
    ∙ simp append_assoc

tail_written : (links : Option Members) (value : Option Text)
    → members_text true (with_links links (member (codes "value") (nullable_data value) no_members))
    ≡ links_text (compact_links links) ++ (codes ",\"value\":" ++ (nullable_text value ++ codes "}"))
unfolding escape_byte
tail_written None value = ap (λ t. codes ",\"value\":" ++ (t ++ codes "}")) (nullable_written value)
tail_written (Some ms) value =
    ap (λ t. codes ",\"links\":" ++ (compact_text (object ms) ++ (codes ",\"value\":" ++ (t ++ codes "}"))))
    (nullable_written value)

integer_written : (z : ℤ) → number_text (of_integer z) ≡ signed_decimal z
integer_written (pos n) = refl
integer_written (negsuc n) = refl

head_written : (decimals : Option ℤ) (dims : Dims) (rest : Members) (text : Text) → members_text true rest ≡ text
    → compact_text (object (with_decimals decimals (member (codes "dimensions") (object (dims_members dims)) rest)))
    ≡ codes "{" ++ (decimals_text decimals ++ (codes "\"dimensions\":" ++ (dims_text dims ++ text)))
unfolding escape_byte
head_written None dims rest text h = λ i. codes "{\"dimensions\":{" ++ (dims_listed false dims i ++ h i)
head_written (Some z) dims rest text h =
    (λ i. codes "{\"decimals\":" ++ (integer_written z i ++ (codes ",\"dimensions\":{" ++ (dims_listed false dims i ++ h i))))
    ∙ ap (λ t. codes "{\"decimals\":" ++ t) (sym (append_assoc (signed_decimal z) (codes ",") (codes "\"dimensions\":" ++ (dims_text dims ++ text))))

pub fact_written : (decimals : Option ℤ) (dims : Dims) (links : Option Members) (value : Option Text)
    → raw_fact_text (raw_with decimals dims links value)
    ≡ compact_text (object (fact_members decimals dims links value))
unfolding raw_fact_text
fact_written decimals dims links value = sym (head_written decimals dims _ _ (tail_written links value))

-- ---- what stands for it reads back

reads_nullable : (value : Option Text) → Reads (nullable_data value)
reads_nullable None = record { numbers = tt; back = refl }
reads_nullable (Some text) = record { numbers = tt; back = refl }

dims_below : (k : Text) (ds : Dims) → below_all text_cmp k (pairs (dims_members ds)) ≡ below_all text_cmp k ds
dims_below k [] = refl
dims_below k (d ∷ ds) = ap (λ b. is_lt (text_cmp k d.0) && b) (dims_below k ds)

dims_sorted : (ds : Dims) → is_sorted text_cmp (pairs (dims_members ds)) ≡ is_sorted text_cmp ds
dims_sorted [] = refl
dims_sorted (d ∷ ds) = λ i. dims_below d.0 ds i && dims_sorted ds i

dims_each : (ds : Dims) → EachReads (dims_members ds)
dims_each [] = tt
dims_each (d ∷ ds) = (reads_nullable d.1, dims_each ds)

pub reads_dims : (ds : Dims) → AreDims ds → Reads (object (dims_members ds))
reads_dims ds are = Reads-object (dims_members ds) (subst T (sym (dims_sorted ds)) are.rise) (dims_each ds)

whole_decimals : (z : ℤ) → AreWholeDecimals (Some z) → IsWhole (of_integer z)
whole_decimals (pos n) h = omega arith
whole_decimals (negsuc n) h = h

-- members that were written for links
abbrev pub AreWritableLinks : Option Members → Type 0
AreWritableLinks None = ⊤
AreWritableLinks (Some ms) = IsWritable (object ms)

pub reads_fact : (decimals : Option ℤ) (dims : Dims) (links : Option Members) (value : Option Text)
    → AreWholeDecimals decimals → AreDims dims → AreWritableLinks links
    → Reads (object (fact_members decimals dims links value))
reads_fact None dims None value whole are writable = Reads-object _ tt (reads_dims dims are, (reads_nullable value, tt))
reads_fact None dims (Some ms) value whole are writable =
    Reads-object _ tt (reads_dims dims are, (Reads-writable (object ms) writable, (reads_nullable value, tt)))
reads_fact (Some z) dims None value whole are writable =
    Reads-object _ tt (
      Reads-number (of_integer z) (whole_decimals z whole),
      (reads_dims dims are, (reads_nullable value, tt)),
    )
reads_fact (Some z) dims (Some ms) value whole are writable =
    Reads-object _ tt (
      Reads-number (of_integer z) (whole_decimals z whole),
      (reads_dims dims are, (Reads-writable (object ms) writable, (reads_nullable value, tt))),
    )

-- ---- what is read

pub nullable_read : (value : Option Text) → as_nullable (nullable_data value) ≡ Some value
nullable_read None = refl
nullable_read (Some text) = refl

pub each_dim_read : (ds : Dims) → each dim_of (pairs (dims_members ds)) ≡ Ok ds
each_dim_read [] = refl
each_dim_read (d ∷ ds) = λ i. (ok_or (nullable_read d.1 i) trouble.WrongShape >>= λ value. Ok (d.0, value)) >>= λ y. each_dim_read ds i >>= λ ys. Ok (y ∷ ys)

integer_read : (z : ℤ) → AreWholeDecimals (Some z) → as_i64 (of_integer z) ≡ Some z
integer_read (pos n) h = ap (λ b. cond b (Some (pos n)) None) (lt-ltb n _ h)
integer_read (negsuc n) h = refl

named_read : (decimals : Option ℤ) (dims : Dims) (links : Option Members) (value : Option Text)
    → named_dims (object (fact_members decimals dims links value)) ≡ Ok dims
named_read None dims links value = each_dim_read dims
named_read (Some z) dims links value = each_dim_read dims

value_read : (decimals : Option ℤ) (dims : Dims) (links : Option Members) (value : Option Text)
    → option_and_then as_nullable (get (codes "value") (object (fact_members decimals dims links value))) ≡ Some value
value_read None dims None value = nullable_read value
value_read None dims (Some ms) value = nullable_read value
value_read (Some z) dims None value = nullable_read value
value_read (Some z) dims (Some ms) value = nullable_read value

decimals_read : (decimals : Option ℤ) (dims : Dims) (links : Option Members) (value : Option Text)
    → AreWholeDecimals decimals → decimals_of (get (codes "decimals") (object (fact_members decimals dims links value)))
    ≡ Ok decimals
decimals_read None dims None value whole = refl
decimals_read None dims (Some ms) value whole = refl
decimals_read (Some z) dims links value whole = ap (λ o. ok_or o trouble.NotWhole >>= λ decimals. Ok (Some decimals)) (integer_read z whole)

kept_links : (ms : Members) → IsWritable (object ms) → links_of (Some (object ms)) ≡ Ok (Some (compact_text (object ms)))
kept_links ms writable = ap (λ b. cond b (Err trouble.NotWhole) (Ok (Some (compact_text (object ms))))) (whole-IsWritable (object ms) writable)

links_read : (decimals : Option ℤ) (dims : Dims) (links : Option Members) (value : Option Text) → AreWritableLinks links
    → links_of (get (codes "links") (object (fact_members decimals dims links value))) ≡ Ok (compact_links links)
links_read None dims None value writable = refl
links_read (Some z) dims None value writable = refl
links_read None dims (Some ms) value writable = kept_links ms writable
links_read (Some z) dims (Some ms) value writable = kept_links ms writable

pub fact_read : (decimals : Option ℤ) (dims : Dims) (links : Option Members) (value : Option Text)
    → AreWholeDecimals decimals → AreDims dims → AreWritableLinks links
    → raw_fact_of (object (fact_members decimals dims links value)) ≡ Ok (raw_with decimals dims links value)
fact_read decimals dims links value whole are writable =
    (λ i.
    named_read decimals dims links value i >>= λ named.
    ok_or (value_read decimals dims links value i) trouble.WrongShape >>= λ v.
    decimals_read decimals dims links value whole i >>= λ d.
    links_read decimals dims links value writable i >>= λ l.
    map_err trouble.Dims (dims_of named) >>= λ set. Ok (record { dims = set; value = v; decimals = d; links = l }))
    ∙ ap (λ r. map_err trouble.Dims r
    >>= λ set. Ok (record { dims = set; value = value; decimals = decimals; links = compact_links links }))
    (Ok-from_AreDims dims are)

-- ---- any raw fact

pub links_in : (links : Option Text) → AreLinks links → (ms : Option Members) × AreWritableLinks ms × (links ≡ compact_links ms)
links_in None are = (None, tt, refl)
links_in (Some text) are = (Some are.0, are.1, ap (λ t. Some t) are.2)

-- the raw fact is that of some members
pub record StandsFor (raw : RawFact) : Type 0 where
  pub links : Option Members
  pub reads : Reads (object (fact_members raw.decimals raw.dims links raw.value))
  pub written : raw_fact_text raw ≡ compact_text (object (fact_members raw.decimals raw.dims links raw.value))
  pub read : raw_fact_of (object (fact_members raw.decimals raw.dims links raw.value)) ≡ Ok raw

pub stands_for : (raw : RawFact) → IsReadableFact raw → StandsFor raw
stands_for raw is =
    let kept = links_in raw.links is.links in
    let same : raw_with raw.decimals raw.dims kept.0 raw.value ≡ raw =
    λ i. record { dims = raw.dims; value = raw.value; decimals = raw.decimals; links = sym kept.2 i } in
    record {
      links = kept.0;
      reads = reads_fact raw.decimals raw.dims kept.0 raw.value is.decimals is.dims kept.1;
      written = ap raw_fact_text (sym same) ∙ fact_written raw.decimals raw.dims kept.0 raw.value;
      read = fact_read raw.decimals raw.dims kept.0 raw.value is.decimals is.dims kept.1 ∙ ap (λ r. Ok r) same;
    }

pub raw_fact_back : (raw : RawFact) → IsReadableFact raw → NestsWithin max_depth (raw_fact_text raw)
    → (d : Data) × (json_of (raw_fact_text raw) ≡ Some d) × (raw_fact_of d ≡ Ok raw)
raw_fact_back raw is nests =
    let stands = stands_for raw is in
    let value = object (fact_members raw.decimals raw.dims stands.links raw.value) in
    (value, read_back value (raw_fact_text raw) stands.reads stands.written nests, stands.read)
