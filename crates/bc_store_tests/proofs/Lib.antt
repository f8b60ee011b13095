mod Publishing
