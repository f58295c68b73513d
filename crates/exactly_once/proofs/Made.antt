-- The invariant of a house as it is made.
use Rattle.std.proofs.Common.{◌≡◌, ℕ, List, [], length, get_or, replicate, Some, None, Option, sym, ap, ◌∙◌, subst}
use Rattle.common.specs.Search.{In}
use Rattle.exactly_once.specs.Steps.{Parts, Model}
use Rattle.exactly_once.specs.Lived.{Fresh}
use Rattle.exactly_once.proofs.Tables.{some_none, rest_of}
use Rattle.exactly_once.proofs.Invariant.{Inv}

nothing_there : {X : Type 0} (xs : List (Option X)) (p : ℕ) (x : X) → xs ≡ replicate 8 None → get_or xs p None ≡ Some x → ⊥
nothing_there xs p x e at = some_none x (sym at ∙ ap (λ ys. get_or ys p None) e ∙ rest_of 8 p None)

pub made : (P : Parts) (first : P.service.Content) (m : Model P) → Fresh P first m → Inv P first [] m
made P first m f = record {
  ids = λ o. record { boot = 0; count = 0 };
  calls = record {
    known = λ t c z. absurd z.1;
    named = λ t o c g z. absurd z.ordered.1;
    numbered = λ t o c g z. absurd z.ordered.1;
    placed = λ t o c g z. absurd z.ordered.1;
    formed = λ t o c g z. absurd z.ordered.1;
    once = λ t u o c d g k z w. absurd z.ordered.1;
  };
  places = record {
    eight_sessions = ap length f.sessions;
    eight_terminals = ap length f.terminals;
    boot_fits = f.boot;
    count_fits = f.count;
    counted = λ o p z. absurd z.2;
    apart = λ o u p q z. absurd z.2;
    newest = λ p o z. absurd z.0.2;
    terminal_there = λ p o z. absurd z.0.2;
    terminal_known = λ p T z. absurd (nothing_there m.terminals p T f.terminals z);
    session_there = λ p o z. absurd z.0.2;
    session_known = λ p S z. absurd (nothing_there m.server.sessions p S f.sessions z);
  };
  terminals = λ p o T z. absurd z.0.2;
  sessions = λ p o S z. absurd z.0.2;
  both = λ p o T S z. absurd z.0.2;
  waiting = record {
    requests = λ b i. absurd (subst (In b) f.requests i);
    heard = λ x e w room b z. absurd z;
    replies = λ b i. absurd (subst (In b) f.replies i);
  };
  done = record {
    list = [];
    runs = record { each = λ r i. absurd i; all = λ r o z. absurd z.1; ascend = λ a b z q r o p y w e s. absurd s.0.2 };
    reach = sym f.content;
  };
}
