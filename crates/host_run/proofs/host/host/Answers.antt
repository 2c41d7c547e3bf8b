use Rattle.host_run.proofs.Outcomes.{has_reported, has_judged, has_shown, is_misused, has_misread, has_missed, has_failed, is_starved, is_status, is_usage, is_demo, is_faulty, is_complete}
use Rattle.host_run.proofs.host.host.Goals as goal

pub returns-clause-ran : goal.returns-clause-ran
returns-clause-ran g c = λ path command e. has_reported _ _ _ _ _ path command e c.serve.ensures

pub returns-clause-checked : goal.returns-clause-checked
returns-clause-checked g c = λ path command e. has_judged _ _ _ _ _ path command e c.serve.ensures

pub returns-clause-shown : goal.returns-clause-shown
returns-clause-shown g c = λ tenants command e. has_shown _ _ _ _ _ tenants command e c.serve.ensures

pub returns-clause-misused : goal.returns-clause-misused
returns-clause-misused g c = λ e. is_misused _ _ _ _ _ e c.serve.ensures

pub returns-clause-misread : goal.returns-clause-misread
returns-clause-misread g c = λ e. has_misread _ _ _ _ _ e c.serve.ensures

pub returns-clause-missed : goal.returns-clause-missed
returns-clause-missed g c = λ e. has_missed _ _ _ _ _ e c.serve.ensures

pub returns-clause-failed : goal.returns-clause-failed
returns-clause-failed g c = λ e. has_failed _ _ _ _ _ e c.serve.ensures

pub returns-clause-starved : goal.returns-clause-starved
returns-clause-starved g c = λ e. is_starved _ _ _ _ _ e c.serve.ensures

pub returns-clause-statuses : goal.returns-clause-statuses
returns-clause-statuses g c = is_status _ _ _ _ _ c.serve.ensures

pub returns-clause-usage : goal.returns-clause-usage
returns-clause-usage g c = λ none. is_usage _ _ _ _ _ none c.serve.ensures

pub returns-clause-demo : goal.returns-clause-demo
returns-clause-demo g c = λ tenants command. is_demo _ _ _ _ _ tenants command c.serve.ensures

pub returns-clause-faulty : goal.returns-clause-faulty
returns-clause-faulty g c = λ s f a. is_faulty _ _ _ _ _ s f a c.serve.ensures

pub returns-clause-complete : goal.returns-clause-complete
returns-clause-complete g c = λ s f a k. is_complete _ _ _ _ _ s f a k c.serve.ensures
