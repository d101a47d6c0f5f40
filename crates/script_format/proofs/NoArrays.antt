-- A text that begins with neither a bracket nor white space is no array, so its line is bad.
use Rattle.std.proofs.Common.{◌≡◌, ◌∙◌, ap, sym, refl, ℕ, ◌-◌, Bool, true, false, true≢false, cond, ◌&&◌, ◌==◌, nat_eq}
use Rattle.std.proofs.Common.{List, [], ◌∷◌, length, take, drop, Option, None, Some, option_map, option_and_then, unwrap_or}
use Rattle.std.proofs.lemmas.Bool.{eqb-true}
use Rattle.std.specs.List.{slice_get, starts_with}
use Rattle.std.specs.Bool.{⊤, if◌then◌else◌, OnFalse}
use Rattle.std.specs.Option.{option_map_or}
use Rattle.std.specs.Str.{is_utf8}
use Rattle.json.specs.Ascii as ascii
use Rattle.json.specs.Json as json
use Rattle.json.specs.Json.{Parse, parse_map, if_last, value, value_with}
use Rattle.json.specs.Lex.{Lexeme, token, comma, colon, Class, quote, backslash, operator, space, other, Mode, between}
use Rattle.json.specs.Lex.{class, lex, lex_byte, operator_lexeme, string_token, Place, fresh, punctuate, place_token, tokens}
use Rattle.json.specs.Token.{Token}
use Rattle.json.specs.Word.{after_number, ends_word, head, is_space, literal, number_before, word}
use Rattle.json.proofs.Grammar.{value_is}
use Rattle.serde_json.specs.Data.{Data, Members, no_members, object, number, Num}
use Rattle.serde_json.specs.Read.{of_json, of_members, number_of, max_depth, read}
use Rattle.filing_model.specs.Reading.JsonText.{json_of}
use Rattle.script_format.specs.ReplyText.{bad_line_text}
use Rattle.script_format.specs.ScriptLines.{line_of}
use Rattle.script_format.specs.Script.{ReplyNow, State, value_outcome, line_outcome}

-- ---- of the value

line_of_object : (o : Option Members) → option_and_then line_of (option_map object o) ≡ None
unfolding line_of
line_of_object None = refl
line_of_object (Some ms) = refl

line_of_number : (o : Option Num) → option_and_then line_of (option_map number o) ≡ None
unfolding line_of
line_of_number None = refl
line_of_number (Some n) = refl

-- the line that what was read is
abbrev line_read : Option (json.Json × List Token) → Type 0
line_read r = option_and_then line_of (option_and_then of_json (option_and_then (λ p. if_last p.0 p.1) r)) ≡ None

by_itself : (j : json.Json) (ts : List Token) → option_and_then line_of (of_json j) ≡ None → line_read (Some (j, ts))
by_itself j [] h = h
by_itself j (t ∷ ts) h = refl

of_object : (r : Option (json.Members × List Token)) → line_read (parse_map json.object r)
of_object None = refl
of_object (Some p) = by_itself (json.object p.0) p.1 (line_of_object (of_members p.0 no_members))

-- ---- of the tokens

abbrev opens_no_array : Token → Type 0
opens_no_array Token.begin_object = ⊤
opens_no_array Token.end_object = ⊤
opens_no_array Token.begin_array = ⊥
opens_no_array Token.end_array = ⊤
opens_no_array (Token.key s) = ⊤
opens_no_array (Token.string s) = ⊤
opens_no_array (Token.number s) = ⊤
opens_no_array (Token.boolean b) = ⊤
opens_no_array Token.null = ⊤
opens_no_array Token.bad = ⊤

abbrev open_no_array : List Token → Type 0
open_no_array [] = ⊤
open_no_array (t ∷ ts) = opens_no_array t

value_of_tokens : (a : Parse json.Items) (o : Parse json.Members) (ts : List Token) → open_no_array ts → line_read (value_with a o ts)
unfolding line_of
value_of_tokens a o [] h = refl
value_of_tokens a o (Token.begin_object ∷ ts) h = of_object (o ts)
value_of_tokens a o (Token.end_object ∷ ts) h = refl
value_of_tokens a o (Token.begin_array ∷ ts) h = absurd h
value_of_tokens a o (Token.end_array ∷ ts) h = refl
value_of_tokens a o (Token.key s ∷ ts) h = refl
value_of_tokens a o (Token.string s ∷ ts) h = by_itself (json.string s) ts refl
value_of_tokens a o (Token.number s ∷ ts) h = by_itself (json.number s) ts (line_of_number (number_of s))
value_of_tokens a o (Token.boolean b ∷ ts) h = by_itself (json.boolean b) ts refl
value_of_tokens a o (Token.null ∷ ts) h = by_itself json.null ts refl
value_of_tokens a o (Token.bad ∷ ts) h = refl

placed : (t : Token) (before_colon : Bool) (k : Place → List Token) → opens_no_array t → open_no_array (place_token fresh t before_colon k)
placed Token.begin_object c k h = tt
placed Token.end_object c k h = tt
placed Token.begin_array c k h = absurd h
placed Token.end_array c k h = tt
placed (Token.key s) c k h = tt
placed (Token.string s) true k h = tt
placed (Token.string s) false k h = tt
placed (Token.number s) c k h = tt
placed (Token.boolean b) c k h = tt
placed Token.null c k h = tt
placed Token.bad c k h = tt

-- ---- of the first byte

text_token : (o : Option (List ℕ)) → opens_no_array (string_token o)
text_token None = tt
text_token (Some s) = tt

either_token : (b : Bool) (x y : Token) → opens_no_array x → opens_no_array y → opens_no_array (cond b x y)
either_token true x y p q = p
either_token false x y p q = q

literal_token : (name : List ℕ) (t : Token) (text : List ℕ) → opens_no_array t → opens_no_array (literal name t text)
literal_token name t text h = either_token (starts_with nat_eq text name && ends_word (drop (length name) text)) t Token.bad h tt

number_token : (text : List ℕ) (rest : Option (List ℕ)) → opens_no_array (number_before text rest)
number_token text None = tt
number_token text (Some rest) = either_token (ends_word rest) (Token.number (take (length text - length rest) text)) Token.bad tt tt

word_token : (text : List ℕ) → opens_no_array (word text)
unfolding word
word_token text =
    let none = literal ascii.null_text Token.null text in
    let no = literal ascii.false_text (Token.boolean false) text in
    let yes = literal ascii.true_text (Token.boolean true) text in
    let numeral = number_before text (after_number text) in
    let or_none = cond (head text == ascii.lower_n) none numeral in
    let or_no = cond (head text == ascii.lower_f) no or_none in
    either_token (head text == ascii.lower_t) yes or_no (literal_token ascii.true_text (Token.boolean true) text tt)
    (either_token (head text == ascii.lower_f) no or_none (literal_token ascii.false_text (Token.boolean false) text tt)
    (either_token (head text == ascii.lower_n) none numeral (literal_token ascii.null_text Token.null text tt) (number_token text (after_number text))))

abbrev first_lexeme : Lexeme → List Lexeme → Type 0
first_lexeme l ls = open_no_array (punctuate fresh (l ∷ ls))

of_token : (t : Token) (ls : List Lexeme) → opens_no_array t → first_lexeme (token t) ls
unfolding punctuate
of_token t ls h = placed t _ _ h

operator_cases : (a b bracket c d : Bool) (ls : List Lexeme) → bracket ≡ false
    → first_lexeme (cond a (token Token.begin_object) (cond b (token Token.end_object)
    (cond bracket (token Token.begin_array) (cond c (token Token.end_array) (cond d comma colon))))) ls
unfolding punctuate
operator_cases true b bracket c d ls h = tt
operator_cases false true bracket c d ls h = tt
operator_cases false false true c d ls h = absurd (true≢false h)
operator_cases false false false true d ls h = tt
operator_cases false false false false true ls h = tt
operator_cases false false false false false ls h = tt

of_operator : (byte : ℕ) (ls : List Lexeme) → (byte == ascii.open_bracket) ≡ false → first_lexeme (operator_lexeme byte) ls
of_operator byte ls h = operator_cases _ _ (byte == ascii.open_bracket) _ _ ls h

abbrev is_first : Class → ℕ → Type 0
is_first quote byte = ⊤
is_first backslash byte = ⊤
is_first operator byte = (byte == ascii.open_bracket) ≡ false
is_first space byte = ⊥
is_first other byte = ⊤

of_class : (c : Class) (byte : ℕ) (rest : List ℕ) (k : Mode → List Lexeme) → is_first c byte → open_no_array (punctuate fresh (lex_byte between c byte rest k))
of_class quote byte rest k h = of_token (string_token _) _ (text_token _)
of_class backslash byte rest k h = of_token Token.bad _ tt
of_class operator byte rest k h = of_operator byte _ h
of_class space byte rest k h = absurd h
of_class other byte rest k h = of_token (word (byte ∷ rest)) _ (word_token (byte ∷ rest))

class_first : (q s o w : Bool) (byte : ℕ) → (byte == ascii.open_bracket) ≡ false → w ≡ false
    → is_first (cond q quote (cond s backslash (cond o operator (cond w space other)))) byte
class_first true s o w byte b h = tt
class_first false true o w byte b h = tt
class_first false false true w byte b h = b
class_first false false false true byte b h = absurd (true≢false h)
class_first false false false false byte b h = tt

tokens_first : (byte : ℕ) (rest : List ℕ) → (byte == ascii.open_bracket) ≡ false → is_space byte ≡ false → open_no_array (tokens (byte ∷ rest))
unfolding lex
tokens_first byte rest b h = of_class (class byte) byte rest _ (class_first _ _ _ _ byte b h)

-- ---- of the line

line_read_of : (byte : ℕ) (rest : List ℕ) → (byte == ascii.open_bracket) ≡ false → is_space byte ≡ false → option_and_then line_of (read (byte ∷ rest)) ≡ None
line_read_of byte rest b h =
    ap (λ r. option_and_then line_of (option_and_then of_json (option_and_then (λ p. if_last p.0 p.1) r))) (value_is max_depth (tokens (byte ∷ rest)))
    ∙ value_of_tokens _ _ (tokens (byte ∷ rest)) (tokens_first byte rest b h)

where_utf8 : (utf8 : Bool) (o : Option Data) → option_and_then line_of o ≡ None → option_and_then line_of (if◌then◌else◌ utf8 o None) ≡ None
where_utf8 true o h = h
where_utf8 false o h = refl

no_array_is_bad : (byte : ℕ) (rest : List ℕ) → (byte == ascii.open_bracket) ≡ false → is_space byte ≡ false
    → (state : State) → value_outcome state (json_of (byte ∷ rest)) ≡ ReplyNow bad_line_text
unfolding json_of
no_array_is_bad byte rest b h state =
    ap (λ o. option_map_or (line_outcome state) o (ReplyNow bad_line_text))
    (where_utf8 (is_utf8 (byte ∷ rest)) (read (byte ∷ rest)) (line_read_of byte rest b h))

unlike : (x y : ℕ) → (x ≡ y → ⊥) → (x == y) ≡ false
unlike x y h =
    elim (x == y) as (λ b. (x == y) ≡ b → (x == y) ≡ false) [
      | true ↦ λ e. absurd (h (eqb-true x y e))
      | false ↦ λ e. e
    ] refl

pub bad_where_no_array : (byte : ℕ) (line : List ℕ) (spaced : Bool) → Some byte ≡ slice_get line 0 → (byte ≡ ascii.open_bracket → ⊥) → spaced ≡ is_space byte
    → OnFalse spaced ((state : State) → value_outcome state (json_of line) ≡ ReplyNow bad_line_text)
bad_where_no_array byte line true first no_bracket is = tt
bad_where_no_array byte [] false first no_bracket is = absurd (cc)
bad_where_no_array byte (b ∷ rest) false first no_bracket is = λ state.
    let same : byte ≡ b = ap (λ o. unwrap_or o byte) first in
    ap (λ b. value_outcome state (json_of (b ∷ rest))) (sym same)
    ∙ no_array_is_bad byte rest (unlike byte ascii.open_bracket no_bracket) (sym is) state
