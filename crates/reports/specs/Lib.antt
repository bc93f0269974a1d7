-- How many lines within the limit, the report of a run, joining, repetition, the words of a report, what joining answers, and the reports of which the
-- law of joining speaks.
pub mod Totals
pub mod Reports
pub mod Repetition
pub mod Words
pub mod Answers
pub mod Proper
