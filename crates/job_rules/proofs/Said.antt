-- What the answers of the calls say, undone: two answers that say the same are the same. Carried by `told_apart`, that no two refusals have number and place in common.
-- Assumes nothing.
use Rattle.job_rules.proofs.Shared.{ℕ, ◌≡◌, sym, ap, Result, Ok, Err, Refusal, Job, ReadJob, Written, said_read, said_written}
use Rattle.table.proofs.Told.{told_apart, never_0}

pub unsaid_read : (x y : Result Job Refusal) → said_read x ≡ said_read y → x ≡ y
unsaid_read (Ok a) (Ok b) e = ap (λ (v : ReadJob). Ok v.job) e
unsaid_read (Ok a) (Err why) e = absurd (never_0 why (sym (ap (λ (v : ReadJob). v.refusal) e)))
unsaid_read (Err why) (Ok b) e = absurd (never_0 why (ap (λ (v : ReadJob). v.refusal) e))
unsaid_read (Err why) (Err other) e = ap Err (told_apart (ap (λ (v : ReadJob). v.refusal) e) (ap (λ (v : ReadJob). v.place) e))

pub unsaid_written : (x y : Result ℕ Refusal) → said_written x ≡ said_written y → x ≡ y
unsaid_written (Ok a) (Ok b) e = ap (λ (v : Written). Ok v.size) e
unsaid_written (Ok a) (Err why) e = absurd (never_0 why (sym (ap (λ (v : Written). v.refusal) e)))
unsaid_written (Err why) (Ok b) e = absurd (never_0 why (ap (λ (v : Written). v.refusal) e))
unsaid_written (Err why) (Err other) e = ap Err (told_apart (ap (λ (v : Written). v.refusal) e) (ap (λ (v : Written). v.place) e))
