-- Calls of devices, one after another.
use Rattle.std.proofs.Common.{◌≡◌, ℕ, [], ◌++◌, take, drop, refl, sym, ◌∙◌, ap, arith, append_assoc, append-nil}
use Rattle.std.specs.declared.option.Option.{Option}
use Rattle.std.specs.declared.option.Option.TheVariants.{None, Some}
use Rattle.std.specs.Io.KnownBytes.{Keeps, Appends, Consumes}
use Rattle.std.proofs.lemmas.List.{take-append-drop}
use Rattle.line_io.specs.Text.{Text}
use Rattle.line_io.specs.Devices.{SinkState, Took, TookPart}

pub appends_none : (known : Option Text) → Appends known known []
appends_none None = tt
appends_none (Some xs) = sym (append-nil xs)

pub appends_more : (a b c : Option Text) (x y : Text) → Appends a b x → Appends b c y → Appends a c (x ++ y)
appends_more None b c x y p q = tt
appends_more (Some xs) None c x y p q = absurd p
appends_more (Some xs) (Some ys) None x y p q = absurd q
appends_more (Some xs) (Some ys) (Some zs) x y p q = q ∙ (ap (λ m. m ++ y) p ∙ append_assoc xs x y)

pub consumes_none : (known : Option Text) → Consumes known known []
consumes_none None = tt
consumes_none (Some xs) = refl

pub consumes_more : (a b c : Option Text) (x y : Text) → Consumes a b x → Consumes b c y → Consumes a c (x ++ y)
consumes_more None b c x y p q = tt
consumes_more (Some xs) None c x y p q = absurd p
consumes_more (Some xs) (Some ys) None x y p q = absurd q
consumes_more (Some xs) (Some ys) (Some zs) x y p q = p ∙ (ap (λ m. x ++ m) q ∙ sym (append_assoc x y zs))

pub consumes_kept : (a b c : Option Text) (x : Text) → Consumes a b x → Keeps b c → Consumes a c x
consumes_kept None b c x p q = tt
consumes_kept (Some xs) None c x p q = absurd p
consumes_kept (Some xs) (Some ys) None x p q = absurd q
consumes_kept (Some xs) (Some ys) (Some zs) x p q = p ∙ ap (λ m. x ++ m) (sym q)

-- nothing was written
pub took_none : (s : SinkState) → Took s s [] 0
took_none s = record { bytes = appends_none s.written; failures = omega arith }

pub took_more : {a b c : SinkState} {x y : Text} {n : ℕ} → Took a b x 0 → Took b c y n → Took a c (x ++ y) n
took_more {a} {b} {c} {x} {y} p q = record {
  bytes = appends_more a.written b.written c.written x y p.bytes q.bytes;
  failures = omega (arith, p.failures, q.failures);
}

pub part_after : {a b c : SinkState} {x y : Text} → Took a b x 0 → TookPart b c y → TookPart a c (x ++ y)
part_after {x = x} p q = record {
  part = x ++ q.part;
  left = q.left;
  parts = ap (λ m. x ++ m) q.parts ∙ sym (append_assoc x q.part q.left);
  some_left = q.some_left;
  took = took_more p q.took;
}

-- a front of the bytes is written, and the rest is still to be written
pub record IsUpTo (old new : SinkState) (bytes rest : Text) : Type 0 where
  pub front : Text
  pub parts : bytes ≡ front ++ rest
  pub took : Took old new front 0

pub up_to_none : (s : SinkState) (bytes : Text) → IsUpTo s s bytes bytes
up_to_none s bytes = record { front = []; parts = refl; took = took_none s }

pub up_to_more : {a b c : SinkState} {bytes rest rest' : Text} (count : ℕ) → IsUpTo a b bytes rest
    → Appends b.written c.written (take count rest) → c.failed ≡ b.failed → rest' ≡ drop count rest → IsUpTo a c bytes rest'
up_to_more {b = b} {c = c} {rest = rest} {rest' = rest'} count p appended same is =
    let step : Took b c (take count rest) 0 = record { bytes = appended; failures = omega arith } in
    let cut : rest ≡ take count rest ++ rest' = sym (take-append-drop count rest) ∙ ap (λ m. take count rest ++ m) (sym is) in
    record {
      front = p.front ++ take count rest;
      parts = p.parts ∙ (ap (λ m. p.front ++ m) cut ∙ sym (append_assoc p.front (take count rest) rest'));
      took = took_more p.took step;
    }
