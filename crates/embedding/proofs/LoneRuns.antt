-- What a session replies to two calls, and to its calls alone.
use Rattle.std.proofs.Common.{◌≡◌, ◌∙◌, ap, sym, List, [], ◌∷◌}
use Rattle.filing_model.specs.Sessions.Calls.{Call}
use Rattle.filing_model.specs.Sessions.Replies.{Reply}
use Rattle.filing_model.specs.Sessions.Repository.{Repository}
use Rattle.filing_model.specs.Sessions.Sessions.{answer, solo_replies}
use Rattle.filing_model.specs.declared.kind.Kind.TheVariants.{Amend}
use Rattle.filing_session.specs.States.{SessionState, opened, called, replies_to}
use Rattle.filing_session.proofs.RunStates.{each_session_runs_alone}

pub replies_in_turn : (one two : Call) (s t : SessionState) (x y : Reply) → x ≡ (answer s.kind one s.copy).0
    → t ≡ called one s → y ≡ (answer t.kind two t.copy).0 → replies_to (one ∷ two ∷ []) s ≡ x ∷ y ∷ []
replies_in_turn one two s t x y first left second =
    ap (λ (r : Reply). r ∷ (answer (called one s).kind two (called one s).copy).0 ∷ []) (sym first)
    ∙ ap (λ (r : Reply). x ∷ r ∷ [])
    (sym (second ∙ ap (λ (v : SessionState). (answer v.kind two v.copy).0) left))

pub replies_alone : (base : Repository) (calls : List Call) (s : SessionState) (told : List Reply) → s ≡ opened Amend base
    → replies_to calls s ≡ told → solo_replies Amend base calls ≡ told
replies_alone base calls s told is so =
    sym ((each_session_runs_alone Amend base calls).replies) ∙ ap (replies_to calls) (sym is) ∙ so
