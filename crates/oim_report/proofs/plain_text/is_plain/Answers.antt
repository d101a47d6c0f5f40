use Rattle.std.proofs.Common.{◌≡◌, List, ℕ, Bool, subst}
use Rattle.std.specs.Bool.{OnTrue}
use Rattle.json.specs.Print.{escape}
use Rattle.json.specs.Written.{PlainBetween}
use Rattle.json.proofs.Printed.Plain.{escape_on_plain}
use Rattle.std.proofs.Common.{length}
use Rattle.oim_report.proofs.plain_text.is_plain.Goals as goal

of_bytes : (b : Bool) (bytes text : List ℕ) → bytes ≡ text → OnTrue b (PlainBetween bytes 0 (length bytes)) → OnTrue b (escape text ≡ text)
of_bytes b bytes text same plain = subst (λ t. OnTrue b (escape t ≡ t)) same (escape_on_plain b bytes plain)

pub returns-then-bytes-lt16 : goal.returns-then-bytes-lt16
returns-then-bytes-lt16 c = of_bytes _ _ _ c.as_bytes-bytes.ensures.value c.are_short_plain.ensures

pub returns-else-bytes-lt16 : goal.returns-else-bytes-lt16
returns-else-bytes-lt16 c = of_bytes _ _ _ c.as_bytes-bytes.ensures.value c.are_long_plain.ensures
